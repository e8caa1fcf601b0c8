pub mod Numbers
pub mod Images
pub mod Heads
pub mod Tails
pub mod Copies
pub mod Contents
