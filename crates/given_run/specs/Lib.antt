pub mod Planned
pub mod Lanes
pub mod State
pub mod Following
