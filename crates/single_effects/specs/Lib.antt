pub mod Shapes
pub mod Effects
pub mod Whole
pub mod Claim
