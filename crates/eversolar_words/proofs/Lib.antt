pub mod WordLaws
pub mod One
