pub mod Cells
pub mod Stores
pub mod Laws
