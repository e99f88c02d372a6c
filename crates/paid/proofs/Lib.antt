pub mod CostIsMetric
