pub mod Shown
pub mod Ports
pub mod Demands
