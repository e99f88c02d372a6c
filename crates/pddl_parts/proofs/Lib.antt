pub mod Examples
pub mod Listing
pub mod Emitting
pub mod ClauseRows
pub mod EffectRows
pub mod LineRows
