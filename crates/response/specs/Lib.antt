pub mod Bounds
pub mod Safety
pub mod Verdicts
pub mod Judgements
pub mod Rows
pub mod Easing
pub mod Words
