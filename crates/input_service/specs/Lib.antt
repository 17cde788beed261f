pub mod Replies
pub mod Services
