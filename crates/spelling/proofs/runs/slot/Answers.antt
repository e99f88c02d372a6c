-- By the set that the fact goes to.
use mathlib.Core.Path.{ap, sym}
use mathlib.Core.Bool.{Bool}
use Prim.Native.Nat.{◌/◌}
use Rattle.spelling.specs.Runs.{slot_of}
use Rattle.spelling.proofs.runs.slot.Goals as goal

pub returns-then-in_first : goal.returns-then-in_first
returns-then-in_first c = ap (λ (b : Bool). slot_of b (c.args.fact / 64)) (sym c.if-in_first.true)

pub returns-else-in_first : goal.returns-else-in_first
returns-else-in_first c = ap (λ (b : Bool). slot_of b (c.args.fact / 64)) (sym c.if-in_first.false)
