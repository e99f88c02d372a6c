pub mod Examples
pub mod Hashing
pub mod Product
