-- By a preference's mark
pub mod ByMark
-- The monitors of all preferences see a state
pub mod SidesRead
pub mod Watching
-- The preferences that they say are met
pub mod Meeting
-- What the readers give on rows that spell a task
pub mod TaskRead
