pub mod Measured
pub mod Reading
pub mod Demands
