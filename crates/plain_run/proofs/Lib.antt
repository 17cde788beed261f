pub mod Commands
pub mod ReadWords
pub mod Files
