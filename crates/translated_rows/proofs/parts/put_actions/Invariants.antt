-- The actions that are left make up all of them: a loop over the actions, by `acted_on`.
use Prim.Native.Nat.{◌-◌}
use mathlib.Core.Bool.{false}
use Rattle.trackers.specs.Trackers.{trackers_by}
use Rattle.translated_rows.proofs.PartRows.{Acting}
use Rattle.translated_rows.proofs.parts.put_actions.Given as goal

abbrev pub invariant-loop-j : goal.invariant-loop-j
invariant-loop-j l = Acting l.rows.marks.now l.rows.values.now l.facts (trackers_by l.rows.marks.now l.rows.values.now l.starts l.facts false) l.initial.out l.initial.k l.out l.k l.j l.t

abbrev pub decreases-loop-j : goal.decreases-loop-j
decreases-loop-j l = l.to - l.j
