pub mod Meaning
pub mod Demands
