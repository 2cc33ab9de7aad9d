pub mod TableByRule
pub mod SentAgrees
pub mod ChecksumByBytes
pub mod One
pub mod WorkedExamples
