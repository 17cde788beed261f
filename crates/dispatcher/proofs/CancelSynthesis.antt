pub mod KeyPlaces
pub mod PointerEnds
pub mod CancelSteps
pub mod KeyEnds
pub mod Tracking
pub mod Examples
