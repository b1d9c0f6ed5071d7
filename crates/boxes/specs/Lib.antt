pub mod Areas
pub mod Banded
pub mod Bands
pub mod Cells
pub mod Laws
pub mod Moves
pub mod Regions
pub mod Strips
