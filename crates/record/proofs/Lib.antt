pub mod Parts
pub mod Undone
pub mod Chains
pub mod Kept
pub mod Written
