pub mod Reading
pub mod Entering
pub mod Changing
pub mod Easing
