pub mod Runs
pub mod Spelled
pub mod Outcome
