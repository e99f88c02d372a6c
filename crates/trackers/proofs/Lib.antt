pub mod ByMark
pub mod Tracking
pub mod TrackerRows
