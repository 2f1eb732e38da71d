pub mod Ends
pub mod Progress
pub mod Loaders
