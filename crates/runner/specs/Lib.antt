pub mod Runs
pub mod Soundness
