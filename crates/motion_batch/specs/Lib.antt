pub mod Batched
pub mod Calls
pub mod Data
pub mod Pairs
pub mod Rule
pub mod Unbatch
