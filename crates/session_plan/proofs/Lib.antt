pub mod DeviceDisplays
pub mod Elements
pub mod ErrorLines
pub mod Examples
pub mod Order
pub mod Snapshots
pub mod Text
