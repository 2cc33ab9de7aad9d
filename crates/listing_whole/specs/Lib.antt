pub mod Listing
pub mod Demands
pub mod Cases
