pub mod Stores
pub mod Lists
