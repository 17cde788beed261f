pub mod Parts
pub mod SplitLaws
pub mod Keeping
pub mod Examples
