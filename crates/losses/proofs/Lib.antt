-- What monitors show
pub mod Shown
pub mod Stays
-- A translated run, step by step
pub mod Moves
pub mod Left
pub mod Visited
-- The claim
pub mod Missed
pub mod Bound
pub mod Claim
pub mod Answer
-- Followed on the source
pub mod Following
pub mod Examples
pub mod Refuted
