-- The one spelling, and when two tasks share it
pub mod Canonical
pub mod SameSpelling
pub mod Agreed
-- Translations of two tasks that mean the same
pub mod SharedSolutions
-- As code writes it
pub mod BySets
