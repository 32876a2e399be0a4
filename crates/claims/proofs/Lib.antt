pub mod Summed
pub mod Partners
pub mod Unique
