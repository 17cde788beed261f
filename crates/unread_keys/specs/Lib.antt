pub mod Names
pub mod Lines
pub mod Session
pub mod Pruned
pub mod Laws
