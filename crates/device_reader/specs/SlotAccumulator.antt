pub mod Contacts
pub mod Table
pub mod SlotValues
pub mod SlotContacts
pub mod Changes
