pub mod Conditions
pub mod Effects
pub mod Opening
