pub mod Drawings
pub mod Generated
