pub mod Losing
pub mod Refuted
