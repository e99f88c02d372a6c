-- Turn by turn, by `Turning`.
use mathlib.Core.Bool.{Bool}
use Prim.Native.Nat.{ℕ}
use Rattle.meaning.specs.Task.{Task}
use Rattle.meeting.specs.Meeting.{nodes_in}
use Rattle.expanding.specs.Expanding.{Listed}
use Rattle.exploring.specs.Exploring.{Opened}
use Rattle.exploring.proofs.Turning.{Turning}
use Rattle.exploring.proofs.explore.Given as goal

abbrev pub invariant-loop-turn : goal.invariant-loop-turn
invariant-loop-turn l =
    (t : Task) → Listed l.rows.marks.now l.rows.values.now l.starts t → Opened l.goal l.initial.words l.initial.index.table l.initial.index.tree t
    → (taken : ℕ → Bool) × Turning t l.limit l._turn (nodes_in l.words l.index.table l.index.tree l.n taken)
