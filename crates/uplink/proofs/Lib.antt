pub mod PacketTests
pub mod AcceptedIsWritten
pub mod Demands
pub mod Cases
pub mod One
