pub mod Down
pub mod Broken
pub mod Judged
pub mod Lines
pub mod Judging
pub mod Laws
