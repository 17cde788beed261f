pub mod Walking
pub mod JudgeBox
pub mod Devices
pub mod Looking
