pub mod Masks
pub mod Locks
pub mod LockRows
pub mod Tables
pub mod Admissions
pub mod Withdrawals
pub mod Calls
pub mod Pools
