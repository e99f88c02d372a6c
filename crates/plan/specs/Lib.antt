pub mod Judged
pub mod Walked
pub mod ThenSettled
pub mod Answers
pub mod Steps
