pub mod Laws
pub mod Outcome
pub mod Refusing
pub mod Raced
