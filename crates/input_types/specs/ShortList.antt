pub mod Table
pub mod Inverse
