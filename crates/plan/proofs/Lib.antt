-- Steps
pub mod Stepping
pub mod Finishing
pub mod Running
-- The answer, from what check answers
pub mod Walking
pub mod Bounded
-- Walk followed by settle
pub mod ThenSettled
pub mod Greatest
