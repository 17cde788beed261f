pub mod Due
pub mod Last
