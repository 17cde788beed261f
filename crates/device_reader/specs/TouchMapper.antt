pub mod Cooking
pub mod Rising
pub mod Gesture
pub mod GestureState
