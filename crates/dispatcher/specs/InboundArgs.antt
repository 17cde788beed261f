pub mod Kept
pub mod Keys
pub mod Down
pub mod Laws
pub mod Waiting
