pub mod Key
pub mod Held
