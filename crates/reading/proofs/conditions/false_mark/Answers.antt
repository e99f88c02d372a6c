-- The two branches compute.
use mathlib.Core.Path.{sym, ◌∙◌}
use Rattle.reading.proofs.conditions.false_mark.Goals as goal

pub returns-then-has : goal.returns-then-has
returns-then-has c = rw (sym c.has.ensures ∙ c.if-has.true)

pub returns-else-has : goal.returns-else-has
returns-else-has c = rw (sym c.has.ensures ∙ c.if-has.false)
