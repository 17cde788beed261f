pub mod Passes
pub mod Sets
pub mod Steps
pub mod Tops
pub mod Least
pub mod Agreeing
pub mod Examples
