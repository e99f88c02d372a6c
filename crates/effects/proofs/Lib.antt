pub mod FalseRows
pub mod EffectRows
