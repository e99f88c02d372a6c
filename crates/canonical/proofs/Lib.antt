pub mod Examples
-- Lists with the same members
pub mod Members
pub mod InOrder
pub mod Rising
-- The one spelling
pub mod Same
pub mod Twice
pub mod Agreed
pub mod BySets
-- Its meaning, its rows, its translations, its file
pub mod Meaning
pub mod Shorter
pub mod SharedSolutions
pub mod Respelled
-- Wrong spellings
pub mod Refuted
