pub mod Running
pub mod Examples
pub mod Sections
pub mod Ordering
