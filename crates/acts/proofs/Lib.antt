pub mod ByRecord
pub mod Told
