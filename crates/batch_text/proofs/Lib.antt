pub mod Lasts
pub mod Writing
pub mod Reading
pub mod Numbering
pub mod Messages
pub mod File
pub mod Examples
