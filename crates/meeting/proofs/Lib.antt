pub mod WordsEqual
pub mod Entry
pub mod Meeting
