pub mod Answering
pub mod Complete
pub mod Endings
pub mod Parts
pub mod StillDown
