pub mod Giving
pub mod Masks
