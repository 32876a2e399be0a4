pub mod Whole
pub mod Unique
