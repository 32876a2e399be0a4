mod OpenedTable
pub mod Unique
