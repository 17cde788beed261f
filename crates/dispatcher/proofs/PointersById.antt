pub mod ById
pub mod LeastBit
pub mod Walk
