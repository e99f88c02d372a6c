-- The steps written and those from byte i on are the whole text's, so is the count, and lines and steps are no more than the bytes passed: byte
-- by byte by Scanning, and of a step's line by StepLines.
use mathlib.Core.Path.{◌≡◌}
use Prim.Native.Nat.{◌-◌, ◌≤◌}
use lib.ListN.{length, drop}
use Rattle.text.specs.Area.{written}
use Rattle.plan_lines.specs.PlanText.{lines_of, read_lines}
use Rattle.plan_lines.specs.Scan.{count, start, steps_from}
use Rattle.plan_lines.proofs.Scanning.{count_from, Passed}
use Rattle.plan_lines.proofs.scan.fill.Given as goal

abbrev pub invariant-loop-i : goal.invariant-loop-i
invariant-loop-i l = (l.i ≤ length l.text) × Passed l.s l.i × (length l.out ≡ length l.initial.out) × (written (steps_from l.s (drop l.i l.text)) l.s.steps l.out ≡ written (steps_from start l.text) 0 l.initial.out)
    × (count_from l.s (lines_of (drop l.i l.text)) ≡ count 0 (read_lines 0 (lines_of l.text)))

abbrev pub decreases-loop-i : goal.decreases-loop-i
decreases-loop-i l = length l.text - l.i
