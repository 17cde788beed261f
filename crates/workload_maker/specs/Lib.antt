pub mod Events
pub mod Making
pub mod Numbers
pub mod Session
pub mod View
