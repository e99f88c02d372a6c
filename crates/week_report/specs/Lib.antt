pub mod Lines
pub mod Report
pub mod Of
