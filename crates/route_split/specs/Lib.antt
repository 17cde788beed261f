pub mod Tables
pub mod Marking
pub mod Following
pub mod Seen
pub mod Slipping
pub mod Sending
