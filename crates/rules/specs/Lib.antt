pub mod House
pub mod Settings
pub mod EntryRule
pub mod Limits
pub mod Range
pub mod Step
