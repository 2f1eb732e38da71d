pub mod Following
pub mod Once
