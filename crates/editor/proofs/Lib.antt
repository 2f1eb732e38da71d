pub mod Passing
pub mod Finding
pub mod Drafting
