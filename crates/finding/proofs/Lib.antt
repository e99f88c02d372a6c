pub mod Begun
pub mod Ended
pub mod Answered
