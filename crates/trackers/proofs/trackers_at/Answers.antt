-- The trackers by the sides that were located; none where there is no row, or at-end stands before end.
use mathlib.Core.Path.{sym, ap, ◌∙◌}
use mathlib.Core.Bool.{not, ◌&&◌}
use Prim.Native.Nat.{ℕ}
use lib.Dec.{eqb}
use lib.ListN.{length}
use borrow.Author.Tests.{lt-leb}
use Rattle.layout.specs.Sides.{sides_at, part}
use Rattle.task.specs.Rows.{steps_at}
use Rattle.trackers.proofs.ByMark.{not_in_end}
use Rattle.writer.proofs.Putting.{as_rows, wrote_none}
use borrow.Author.Rules.{rules}
use Rattle.trackers.proofs.trackers_at.Goals as goal

pub returns-then-mark-last : goal.returns-then-mark-last
returns-then-mark-last c =
    let a = c.args in
    let ms = a.rows.now.marks.now in
    let vs = a.rows.now.values.now in
    let p = sides_at ms a.at in
    rw (lt-leb (length ms) a.at (search rules))
    (as_rows (not_in_end _ (steps_at ms vs a.at) a.last a.f (part ms vs p.first) (part ms vs p.second)
    (ap (λ (x : ℕ). eqb x 12 && not a.last) (sym c.soft_mark-mark.ensures) ∙ c.if-mark-last.true)) (wrote_none (search rules)))
