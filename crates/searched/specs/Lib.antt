pub mod Searched
pub mod Claim
