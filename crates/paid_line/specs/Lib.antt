pub mod Paid
pub mod Answers
