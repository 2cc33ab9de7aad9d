pub mod FieldLengths
pub mod PutsJoin
pub mod MessageWrites
pub mod LineLengths
pub mod One
