pub mod Answered
pub mod Answers
