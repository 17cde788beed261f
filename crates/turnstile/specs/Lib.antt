pub mod History
pub mod Views
pub mod Rule
pub mod Idle
pub mod Told
pub mod Answers
pub mod Taken
pub mod Seats
