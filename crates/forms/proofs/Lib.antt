pub mod Cutting
pub mod Digits
pub mod Numerals
pub mod ReadBack
pub mod Canonical
pub mod Readings
pub mod Gathering
