pub mod Chains
pub mod Lines
pub mod SlotLemmas
pub mod SlotMeans
