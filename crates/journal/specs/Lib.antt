pub mod Stores
pub mod LaidOut
pub mod Laws
