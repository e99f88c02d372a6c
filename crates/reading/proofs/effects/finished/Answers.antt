-- The effects applied are a union and a difference of sets.
use mathlib.Core.Path.{◌∙◌}
use borrow.Author.Rules.{rules}
use Rattle.reading.proofs.effects.finished.Goals as goal

pub returns : goal.returns
returns c = (c.join-state.ensures ∙ rw c.minus.ensures, search rules)
