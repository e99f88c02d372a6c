pub mod Report
pub mod Rows
