pub mod Told
pub mod Held
pub mod Faults
pub mod Reasons
