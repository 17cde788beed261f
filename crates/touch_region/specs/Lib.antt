pub mod Between
pub mod Rectangle
pub mod RectList
pub mod Region
pub mod Spans
pub mod Bands
pub mod Edges
