pub mod Alike
pub mod Same
pub mod Taking
pub mod Runs
pub mod Once
