pub mod Monitors
pub mod Met
