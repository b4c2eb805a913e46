pub mod Nodes
pub mod Pool
