pub mod OneMore
pub mod Lines
pub mod Wholes
