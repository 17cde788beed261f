pub mod Table
pub mod FromOrigin
pub mod Changes
pub mod Whole
