-- Action by action, by `Trying`.
use Prim.Native.Nat.{ℕ}
use mathlib.Core.Bool.{Bool}
use Rattle.meaning.specs.Task.{Task}
use Rattle.meeting.specs.Meeting.{nodes_in}
use Rattle.expanding.specs.Expanding.{Listed, Expanding}
use Rattle.expanding.proofs.Trying.{TriedTo}
use Rattle.expanding.proofs.expand.Given as goal

abbrev pub invariant-loop-k : goal.invariant-loop-k
invariant-loop-k l =
    let start = nodes_in l.initial.words l.initial.index.table l.initial.index.tree l.turn.nodes in
    (t : Task) (taken : ℕ → Bool) → Listed l.rows.marks.now l.rows.values.now l.starts t → Expanding l.turn (start taken) t
    → TriedTo (start taken) l.turn l.k (nodes_in l.words l.index.table l.index.tree l.n taken) t
