pub mod KeySets
pub mod Tables
pub mod Accepting
