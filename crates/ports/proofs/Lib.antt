pub mod EveryRow
pub mod TableLaws
pub mod Demands
pub mod One
