pub mod Decimal
pub mod Formats
pub mod Hex
pub mod Reads
pub mod Writes
