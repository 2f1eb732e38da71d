pub mod Guards
pub mod Beside
pub mod Examples
pub mod Counting
