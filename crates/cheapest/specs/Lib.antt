pub mod LentWords
pub mod Kept
