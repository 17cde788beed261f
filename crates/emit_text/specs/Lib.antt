pub mod Refusals
pub mod Motions
pub mod JudgedLines
pub mod Packets
pub mod Written
pub mod Reading
pub mod Emitted
pub mod Laws
