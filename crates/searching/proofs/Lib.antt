-- Small tasks, searched
pub mod Examples
pub mod Refuted
-- What one step does
pub mod States
pub mod Choice
pub mod Meeting
-- What holds all along
pub mod Invariant
pub mod Taking
pub mod Expansion
pub mod Trying
-- What an answer says
pub mod Plans
pub mod Turns
pub mod Explored
pub mod Order
pub mod Limits
pub mod Claim
