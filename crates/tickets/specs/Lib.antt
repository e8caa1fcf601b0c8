pub mod Lists
pub mod Tickets
pub mod Endings
pub mod Texts
