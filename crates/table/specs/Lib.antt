pub mod Numbers
pub mod Items
pub mod Tasks
pub mod Tables
pub mod Easing
pub mod Laws
