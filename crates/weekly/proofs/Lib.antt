-- The file of plans
pub mod Reading
-- One plan more
pub mod Counts
pub mod Taking
-- All plans
pub mod Passing
-- The answer
pub mod Weeks
