pub mod Paints
pub mod Rects
