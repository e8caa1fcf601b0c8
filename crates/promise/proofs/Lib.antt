pub mod Sames
pub mod Edits
pub mod Views
pub mod Agreements
pub mod Times
pub mod Steps
pub mod Law
