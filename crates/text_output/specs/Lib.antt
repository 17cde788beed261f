pub mod Passing
pub mod Together
