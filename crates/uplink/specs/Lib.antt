pub mod Packet
pub mod Demands
pub mod Cases
