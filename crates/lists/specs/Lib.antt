pub mod Lists
pub mod Members
pub mod Sorting
pub mod Places
