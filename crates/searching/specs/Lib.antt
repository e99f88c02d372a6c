pub mod Limits
-- The search, and what holds of its answer
pub mod Search
pub mod Claim
-- The states of a task
pub mod States
