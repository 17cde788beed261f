pub mod Picking
pub mod Wholes
pub mod Moved
pub mod Outgoing
pub mod Noting
pub mod Lateness
pub mod Pending
