pub mod Laid
pub mod Writes
