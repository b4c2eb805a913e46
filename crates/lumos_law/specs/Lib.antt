pub mod CombineLaws
pub mod Combines
pub mod Joins
pub mod Program
pub mod Sync
