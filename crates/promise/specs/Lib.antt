pub mod Histories
pub mod OneByOne
pub mod Promise
pub mod Wrong
