mod Whole
pub mod Unique
