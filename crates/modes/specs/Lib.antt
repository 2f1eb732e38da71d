pub mod Plans
pub mod Graphs
