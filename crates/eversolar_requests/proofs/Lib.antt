pub mod BuilderEnds
pub mod RequestReadsBack
pub mod One
pub mod Demands
