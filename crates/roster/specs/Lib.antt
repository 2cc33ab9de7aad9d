pub mod Roster
pub mod Bytes
pub mod Calls
pub mod Inside
pub mod Demands
