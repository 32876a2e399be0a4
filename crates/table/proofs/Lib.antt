pub mod Beside
pub mod Once
pub mod Held
