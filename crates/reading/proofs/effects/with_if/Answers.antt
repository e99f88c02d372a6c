-- The two branches compute.
use mathlib.Core.Path.{◌∙◌}
use Rattle.reading.proofs.effects.with_if.Goals as goal

pub returns-then-fires : goal.returns-then-fires
returns-then-fires c = c.with.ensures ∙ rw c.if-fires.true

pub returns-else-fires : goal.returns-else-fires
returns-else-fires c = rw c.if-fires.false
