-- After some turns the source steps among so many of the first are written: no_steps, one_step_more and all_steps of SourceSteps.
use Prim.Native.Nat.{◌≤◌}
use lib.ListN.{take}
use Rattle.text.specs.Area.{Wrote}
use Rattle.source.specs.Source.{below}
use Rattle.source.proofs.parts.put_source.Given as goal

abbrev pub invariant-loop-step : goal.invariant-loop-step
invariant-loop-step l = (l.k ≤ l.step-index) × Wrote l.initial.out 0 (below l.actions (take l.step-index l.steps)) l.k l.out
