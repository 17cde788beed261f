pub mod Breaks
pub mod Judged
pub mod Placed
pub mod Sections
