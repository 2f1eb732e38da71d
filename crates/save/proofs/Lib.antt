pub mod Rights
pub mod Slots
pub mod Spelling
pub mod Short
pub mod Running
pub mod Back
pub mod Reloading
