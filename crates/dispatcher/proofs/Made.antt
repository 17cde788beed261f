-- A call that is made, as contracts see it.
pub mod Outcomes
pub mod Removing
pub mod OpenFocus
pub mod Applying
pub mod Answered
pub mod Following
pub mod Timely
pub mod NoOps
pub mod Opening
pub mod Notifying
pub mod Through
pub mod Releasing
pub mod Unfinished
pub mod NotBefore
