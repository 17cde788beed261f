pub mod Resolver
pub mod Changes
