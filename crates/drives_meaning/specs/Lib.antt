pub mod Replies
pub mod Demands
