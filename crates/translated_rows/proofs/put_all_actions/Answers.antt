-- The three kinds of actions in turn, by `then`.
use mathlib.Core.Path.{ap}
use Prim.Native.Nat.{ℕ, ◌+◌}
use lib.ListN.{length}
use Rattle.writer.proofs.Putting.{then, as_rows}
use Rattle.translated_rows.specs.Parts.{read_task}
use Rattle.translated_rows.proofs.PartRows.{end_is}
use Rattle.closings.proofs.ClosingRows.{closings-all}
use Rattle.translated_rows.proofs.put_all_actions.Goals as goal

pub returns : goal.returns
returns c =
    let a = c.args in
    let p = c.requires.1 in
    let ms = a.rows.now.marks.now in
    let vs = a.rows.now.values.now in
    let qs = (read_task a.facts ms vs).preferences in
    then c.put_actions-k.ensures
    (then (as_rows (end_is ms vs a.facts a.s.from a.s.to a.normal a.starts.now p) c.put_end-k.ensures)
    (as_rows (closings-all ms vs a.facts (length qs) (a.normal + 1) (ap (λ (m : ℕ). m + 1) p.normal_is) qs p.timed a.s.to p.prefs a.starts.now p.begun)
    c.put_closings.ensures))
