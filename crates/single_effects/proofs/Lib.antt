-- The shape of an effect
pub mod Counting
pub mod EffectShape
-- Its choices
pub mod Picking
pub mod ByChoice
-- The rows of a task
pub mod Pieces
pub mod Walking
pub mod Seeking
pub mod Rewriting
-- The file
pub mod Fits
pub mod Following
pub mod Answering
pub mod Longest
