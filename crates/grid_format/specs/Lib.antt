pub mod Checks
pub mod Grid
pub mod Heads
pub mod Outside
pub mod Tables
pub mod Writing
