pub mod Touches
pub mod Rows
pub mod Laws
