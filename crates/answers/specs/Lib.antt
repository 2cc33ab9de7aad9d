pub mod Answer
pub mod Refusal
pub mod Damage
pub mod Written
pub mod Demands
