pub mod Examples
pub mod Lines
pub mod Passing
pub mod Pieces
