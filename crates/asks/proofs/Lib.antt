pub mod Looks
pub mod Unique
