pub mod Owning
pub mod LiveOwning
pub mod Faults
pub mod Judging
pub mod States
pub mod Keys
pub mod Serving
pub mod Sizes
