pub mod LinesInOrder
pub mod LinesFit
pub mod StepIsRead
pub mod DrainReadsPiece
pub mod StepMakes
pub mod One
