pub mod Slots
pub mod Calms
pub mod Ruling
pub mod Running
pub mod Longest
