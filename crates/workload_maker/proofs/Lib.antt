pub mod Examples
pub mod WholeSession
