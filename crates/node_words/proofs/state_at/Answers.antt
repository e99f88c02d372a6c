-- The first two words, by the definition.
use mathlib.Core.Path.{refl}
use Rattle.node_words.specs.Words.{packed_at}
use Rattle.node_words.proofs.state_at.Goals as goal

pub returns : goal.returns
unfolding packed_at
returns c = refl
