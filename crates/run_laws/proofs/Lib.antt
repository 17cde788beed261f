pub mod Keeping
pub mod OrderedKeeps
pub mod GivenKeeps
pub mod Growing
pub mod Handing
