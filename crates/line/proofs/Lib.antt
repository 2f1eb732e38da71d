pub mod Facts
pub mod Changing
pub mod Ranges
pub mod Rows
