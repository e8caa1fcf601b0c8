pub mod Faults
pub mod Words
pub mod Lines
pub mod Tokens
pub mod Numbers
