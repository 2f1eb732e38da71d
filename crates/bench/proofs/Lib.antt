pub mod Closing
pub mod Judging
pub mod Easing
pub mod Showing
