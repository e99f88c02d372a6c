pub mod PlanText
pub mod Scan
