pub mod Big
pub mod Coded
pub mod Numbers
pub mod Puts
pub mod Gets
