pub mod NumbersHaveCases
pub mod WriterPromise
pub mod One
