pub mod Translation
pub mod Claim
