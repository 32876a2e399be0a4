mod Moved
pub mod Equal
pub mod Zeros
