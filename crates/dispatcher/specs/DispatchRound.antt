pub mod Bodies
pub mod Rounds
pub mod Outgoing
pub mod Saying
pub mod Each
pub mod Steady
pub mod Past
