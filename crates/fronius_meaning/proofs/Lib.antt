mod ValueBounds
mod TestsInOrder
mod CommandChain
mod QuotientIsNearest
pub mod Demands
pub mod One
