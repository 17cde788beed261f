pub mod Assigned
pub mod PointerIds
pub mod Following
pub mod Slots
