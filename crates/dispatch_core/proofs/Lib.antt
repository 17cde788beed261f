pub mod Recording
pub mod Seats
pub mod Spending
