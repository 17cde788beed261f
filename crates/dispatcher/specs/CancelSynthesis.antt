pub mod Tracked
pub mod Cancelling
pub mod Ends
pub mod Laws
