pub mod Words
pub mod Down
pub mod Lost
pub mod Lines
pub mod Text
pub mod Laws
