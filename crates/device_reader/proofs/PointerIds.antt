pub mod Taken
pub mod Naming
pub mod RisingId
pub mod Examples
pub mod Palms
pub mod Places
pub mod Following
pub mod SameSlots
