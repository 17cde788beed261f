pub mod Delivering
pub mod Examples
pub mod Finishing
pub mod Late
pub mod Moving
