pub mod Drafts
pub mod Desks
