-- A task and its meaning
pub mod WellFormed
pub mod Conditions
pub mod Effects
-- Kinds: monitors, and what document 01 says with quantifiers
pub mod Deadlines
pub mod Watched
pub mod Stated
-- Verdicts, and examples
pub mod Verdict
pub mod DocumentExamples
pub mod Looked
