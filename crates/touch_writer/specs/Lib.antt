pub mod Places
pub mod Packet
pub mod Draft
pub mod Choice
pub mod Search
pub mod State
pub mod Refusal
pub mod EventText
