pub mod Same
pub mod Record
pub mod Asked
pub mod Lookups
