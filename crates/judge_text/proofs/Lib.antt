pub mod HeldKeys
pub mod WhyBroken
pub mod Ties
pub mod Taking
pub mod Downs
pub mod Examples
