pub mod MaskLemmas
pub mod LockLemmas
pub mod TableLemmas
pub mod PoolLemmas
