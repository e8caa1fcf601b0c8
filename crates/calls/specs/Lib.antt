pub mod Names
pub mod Failures
pub mod Faults
pub mod States
pub mod Answers
pub mod Texts
