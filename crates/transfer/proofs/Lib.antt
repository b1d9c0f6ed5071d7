pub mod Conserves
pub mod Travels
