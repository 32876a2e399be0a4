pub mod Examples
pub mod Records
pub mod Firsts
pub mod Heads
pub mod Whole
pub mod Stands
pub mod Trips
