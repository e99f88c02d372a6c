-- What a write that failed leaves of a task file
pub mod Cut
