pub mod Causes
pub mod Files
pub mod Memory
pub mod MemoryDepot
pub mod Steps
pub mod Streams
