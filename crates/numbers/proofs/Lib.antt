pub mod Alike
pub mod TestLaws
pub mod SameLists
pub mod One
