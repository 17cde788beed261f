pub mod Rows
pub mod Listing
pub mod Moving
pub mod ToolTypes
pub mod Examples
