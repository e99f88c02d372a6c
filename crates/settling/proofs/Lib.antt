-- Metric and utility
pub mod Difference
pub mod Weighing
-- The answer, from what check answers
pub mod Settling
