pub mod Task
pub mod Meaning
pub mod Verdict
pub mod Literals
pub mod Monitor
