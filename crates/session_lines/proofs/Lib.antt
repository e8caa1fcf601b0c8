pub mod Derivings
pub mod CallNames
pub mod Scales
