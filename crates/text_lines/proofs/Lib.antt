pub mod Fronts
pub mod Examples
mod Newlines
