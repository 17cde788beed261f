pub mod Examples
pub mod Counts
pub mod Down
pub mod Meta
