pub mod Words
pub mod Names
pub mod Kinds
pub mod Lists
