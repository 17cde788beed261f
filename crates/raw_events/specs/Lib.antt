pub mod Text
pub mod Line
pub mod Recording
pub mod Pieces
pub mod Kept
pub mod Front
pub mod Packets
