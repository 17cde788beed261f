-- Room for messages: how it is made, and that it lasts.
pub mod Rooms
pub mod Oks
pub mod Roomy
pub mod RoomMade
