pub mod One
pub mod Demands
