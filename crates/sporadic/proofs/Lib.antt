pub mod Laws
pub mod Easing
