pub mod Drips
