-- The trackers
pub mod Conditions
pub mod Adding
pub mod Deadlines
pub mod Trackers
pub mod AllTrackers
-- The translated task beside its source
pub mod Actions
pub mod Simulation
pub mod Applies
pub mod Runs
pub mod Plans
pub mod Faithful
-- Its file
pub mod Spellable
pub mod Written
pub mod Rules
pub mod Examples
-- Document 01's attacks
pub mod Before
pub mod Wrong
pub mod Refuted
