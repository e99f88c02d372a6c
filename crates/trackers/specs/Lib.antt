pub mod Trackers
