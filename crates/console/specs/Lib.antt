pub mod Kept
pub mod Lent
