pub mod Cooking
pub mod Reading
