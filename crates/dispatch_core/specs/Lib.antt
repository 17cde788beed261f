pub mod Recorded
pub mod Machine
