pub mod Histories
pub mod Guarantees
