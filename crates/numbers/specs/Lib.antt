pub mod Numbers
pub mod Lists
pub mod Addresses
pub mod Texts
