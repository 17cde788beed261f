pub mod Kept
pub mod Moves
pub mod Order
pub mod State
pub mod View
