pub mod Tables
pub mod HeldKeys
pub mod Examples
pub mod Reasons
pub mod ReasonExamples
