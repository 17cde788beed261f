pub mod Left
pub mod Behind
pub mod Coming
pub mod Examples
