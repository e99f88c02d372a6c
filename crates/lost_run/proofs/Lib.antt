pub mod Seeing
pub mod Summing
pub mod Stepping
pub mod Closing
pub mod Leading
pub mod Following
pub mod Noting
