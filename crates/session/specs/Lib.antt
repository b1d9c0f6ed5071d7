pub mod Boxes
pub mod Replies
