pub mod Plans
pub mod Changing
