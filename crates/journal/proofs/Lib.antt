pub mod Writes
pub mod Laid
pub mod Versions
