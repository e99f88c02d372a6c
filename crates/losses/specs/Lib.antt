pub mod Losses
pub mod Following
