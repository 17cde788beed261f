pub mod Snoc
pub mod Placed
pub mod Spelled
pub mod Sections
