pub mod Told
pub mod Energy
pub mod Waits
