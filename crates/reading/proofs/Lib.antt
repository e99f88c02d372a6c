pub mod Reader
pub mod ConditionRows
pub mod EffectRows
pub mod OpeningRows
