-- From an accepted file to its rows
pub mod Parts
-- The rows at which actions begin, and the first preference
pub mod Seeking
pub mod ActionRows
pub mod Noting
-- The preferences counted
pub mod Counting
-- The sides of a preference, and where preferences begin
pub mod Ends
pub mod Starting
