pub mod Unique
mod Written
