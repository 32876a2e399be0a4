pub mod Elements
pub mod Lent
pub mod Over
pub mod Parts
