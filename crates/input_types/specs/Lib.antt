pub mod Pointers
pub mod Action
pub mod Gestures
pub mod DeviceRule
pub mod StreamRule
pub mod Displays
pub mod ShortList
