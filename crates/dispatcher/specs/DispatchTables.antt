pub mod Lawful
pub mod Channel
pub mod Masks
pub mod Dues
pub mod Silent
pub mod Delivery
pub mod Laws
pub mod Holding
