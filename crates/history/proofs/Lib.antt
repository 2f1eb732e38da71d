pub mod Standing
pub mod Timely
pub mod Lasting
