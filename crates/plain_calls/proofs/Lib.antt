pub mod ReadPointers
pub mod Written
pub mod Reading
pub mod Touching
pub mod ReadWindows
pub mod ReadLayouts
pub mod Again
pub mod Examples
