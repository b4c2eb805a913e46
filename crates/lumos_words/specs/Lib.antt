pub mod Options
pub mod Words
pub mod Numbers
pub mod Faults
pub mod Settings
pub mod Requests
pub mod Matches
pub mod Fits
