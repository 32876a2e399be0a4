pub mod Lists
pub mod Tests
pub mod Details
pub mod Purse
pub mod Step
pub mod Card
pub mod Refusals
