pub mod Tasks
pub mod Sporadics
