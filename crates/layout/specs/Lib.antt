pub mod Fits
pub mod Widths
pub mod Records
pub mod Head
pub mod Image
pub mod Calls
