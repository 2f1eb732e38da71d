pub mod Offers
pub mod Sheets
pub mod Shows
pub mod Laws
pub mod Easing
