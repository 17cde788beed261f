pub mod Rising
pub mod Points
pub mod Adding
pub mod Next
pub mod Joining
pub mod Opening
pub mod Sweeping
pub mod Examples
