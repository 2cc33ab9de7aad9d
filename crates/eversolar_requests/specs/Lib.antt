pub mod Requests
pub mod Inside
pub mod Demands
