mod Counts
mod Passing
