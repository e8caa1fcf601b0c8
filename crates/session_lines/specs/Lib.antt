pub mod Faults
pub mod Scales
pub mod Grammar
pub mod Calls
pub mod Sizes
pub mod Timescales
