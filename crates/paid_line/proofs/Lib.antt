-- What is written
pub mod Whole
-- What the line says
pub mod Held
pub mod Compared
pub mod Confirmed
-- Examples
pub mod Examples
