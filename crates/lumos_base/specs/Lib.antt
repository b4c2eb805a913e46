pub mod ByteLaws
pub mod Bytes
pub mod Leaving
pub mod RecordLaws
pub mod Records
