pub mod PartsThereAndBack
pub mod One
