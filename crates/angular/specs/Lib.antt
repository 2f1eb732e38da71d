pub mod Greatest
pub mod Best
pub mod Tasks
pub mod Sheets
pub mod Walks
pub mod Laws
