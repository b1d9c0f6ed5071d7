pub mod Alone
pub mod Changes
pub mod Grammar
pub mod Lengths
pub mod Meaning
pub mod Spaces
pub mod Unspaced
