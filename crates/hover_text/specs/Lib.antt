pub mod Screen
pub mod Schedule
pub mod State
pub mod Running
pub mod Lines
pub mod Text
pub mod Laws
