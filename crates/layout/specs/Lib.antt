pub mod Rows
pub mod Actions
pub mod Counting
pub mod Sides
