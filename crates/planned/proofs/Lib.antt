pub mod Written
pub mod ReadBack
pub mod Longest
