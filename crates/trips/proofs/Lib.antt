pub mod Alls
pub mod Back
