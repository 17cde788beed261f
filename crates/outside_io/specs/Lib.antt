pub mod Calls
pub mod HostFiles
pub mod Outside
pub mod Trace
