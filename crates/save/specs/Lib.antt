pub mod Texts
pub mod Slots
pub mod Saves
