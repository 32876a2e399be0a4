pub mod Cuts
pub mod Whole
pub mod Worked
