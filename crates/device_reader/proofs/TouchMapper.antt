pub mod Rising
pub mod Walk
pub mod Still
pub mod Common
pub mod Fits
pub mod Examples
pub mod Shares
