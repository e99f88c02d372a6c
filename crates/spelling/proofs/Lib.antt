pub mod Examples
-- Facts taken in
pub mod Masks
-- Rows by rising fact
pub mod LowestBit
pub mod RisingRows
-- The rows of a task, row by row
pub mod Running
pub mod TaskSpelled
-- The file
pub mod Through
pub mod Fitting
pub mod Answering
pub mod Longest
