pub mod Trials
pub mod Edges
