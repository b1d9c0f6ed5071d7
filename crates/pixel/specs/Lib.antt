pub mod Colours
pub mod Descriptions
pub mod Pixels
