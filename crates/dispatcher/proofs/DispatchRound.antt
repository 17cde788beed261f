pub mod Saying
pub mod Telling
pub mod Cancelling
pub mod Ruling
pub mod Stepping
pub mod Getting
pub mod Reaching
pub mod Rooms
pub mod MoveLaws
pub mod Steadily
pub mod Passing
pub mod PassingEach
mod Examples
