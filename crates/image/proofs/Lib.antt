pub mod Passes
pub mod Tails
pub mod Copied
pub mod Refilled
pub mod Rewritten
pub mod ReadBack
