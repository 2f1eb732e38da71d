pub mod Format
pub mod Places
pub mod Numbers
pub mod Keywords
pub mod Words
pub mod Lines
pub mod Reads
