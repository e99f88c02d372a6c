-- After some turns the lines of so many steps are written: no_lines, one_line_more and all_lines of Printing.
use Prim.Native.Nat.{◌*◌, ◌≤◌}
use lib.ListN.{take}
use Rattle.text.specs.Area.{Wrote}
use Rattle.plan_lines.specs.PlanText.{text_of}
use Rattle.plan_lines.proofs.print.put_plan.Given as goal

abbrev pub invariant-loop-step : goal.invariant-loop-step
invariant-loop-step l = (l.k ≤ 7 * l.step-index) × Wrote l.initial.out 0 (text_of (take l.step-index l.plan)) l.k l.out
