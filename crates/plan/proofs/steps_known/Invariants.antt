-- The first step that is not known, by the laws of a search (`Seeking` of layout).
use mathlib.Core.Path.{◌≡◌}
use Prim.Native.Nat.{◌+◌}
use lib.ListN.{drop}
use Rattle.plan.specs.Judged.{steps_known}
use Rattle.plan.proofs.steps_known.Given as goal

abbrev pub invariant-loop-i : goal.invariant-loop-i
invariant-loop-i l = l.i + steps_known l.actions (drop l.i l.plan) ≡ steps_known l.actions l.plan
