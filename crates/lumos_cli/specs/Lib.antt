pub mod Buffered
pub mod Files
