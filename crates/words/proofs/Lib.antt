-- What the definitions give
pub mod Examples
-- Answers that a wider range of amounts leaves as they were
pub mod Unchanged
-- 0 means done
pub mod Done
-- What the code answers
pub mod Bits
pub mod Counts
pub mod Sought
-- What callers are told of a refusal
pub mod Told
