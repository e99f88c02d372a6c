pub mod Tests
pub mod First
pub mod Entries
pub mod Ranges
