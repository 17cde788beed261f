pub mod Focused
pub mod Held
pub mod Repeats
pub mod Laws
