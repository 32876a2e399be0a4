pub mod Passed
pub mod SameNumbers
