pub mod Course
pub mod Ticks
pub mod Calls
pub mod Steps
pub mod Rules
