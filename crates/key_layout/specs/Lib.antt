pub mod KeyNames
pub mod Layout
pub mod Low
pub mod Line
pub mod Text
