pub mod Lines
pub mod Hints
pub mod CountedHints
pub mod Inspected
pub mod Laws
pub mod Used
