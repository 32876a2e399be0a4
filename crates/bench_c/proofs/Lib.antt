mod Runs
pub mod Unique
