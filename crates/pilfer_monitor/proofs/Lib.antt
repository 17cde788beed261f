pub mod Tables
pub mod Takes
pub mod Examples
