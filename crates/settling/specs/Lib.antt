pub mod Settled
pub mod Answers
pub mod Amounts
