pub mod Alone
pub mod Reading
pub mod Shorts
pub mod Splits
pub mod Unambiguous
