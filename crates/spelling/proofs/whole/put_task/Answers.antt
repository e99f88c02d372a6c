use borrow.Author.Rules.{rules}
use mathlib.Core.Path.{◌≡◌, sym, ap, ◌∙◌}
use mathlib.Core.Bool.{true}
use mathlib.Core.List.{◌∷◌}
use Prim.Native.Nat.{ℕ, ◌+◌}
use native.Mathlib.Omega.{arith}
use lib.ListN.{get_or, drop}
use Rattle.task.specs.TaskRows.{row}
use Rattle.task.specs.File.{paired}
use Rattle.writer.proofs.Putting.{then, wrote_none, as_rows, kept_none, kept_on}
use Rattle.spelling.specs.Runs.{is_listed, as_run}
use Rattle.spelling.specs.Spelled.{outside, spelled_from}
use Rattle.spelling.proofs.Running.{next_row, next_run, run_goes, no_row, whole_rows}
use Rattle.spelling.proofs.whole.put_task.Goals as goal
use Rattle.spelling.proofs.whole.put_task.Goals.{Then-is_listed}

pub loop-i-init : goal.loop-i-init
loop-i-init c = record { so_far = kept_none (search rules); onward = λ r o w. w }

pub put_rising-k-requires : goal.put_rising-k-requires
put_rising-k-requires c = c.loop-i.invariant.so_far.room

-- a row that is listed stands in a run, which ends at a later row
listed : (c : Then-is_listed) → is_listed (get_or c.args.rows.now.marks.now c.loop-i.i 0) ≡ true
listed c = sym c.is_listed.ensures ∙ c.if-is_listed.true

pub loop-i-smaller-then-is_listed : goal.loop-i-smaller-then-is_listed
loop-i-smaller-then-is_listed c =
    let a = c.args in
    let e = run_goes a.rows.now.marks.now a.rows.now.values.now c.loop-i.i (search rules) (listed (goal.at.loop-i-smaller-then-is_listed c).Then-is_listed) c.first_mark-a.result c.second_mark-b.result (as_run c.gather-g.result)
    c.first_mark-a.ensures c.second_mark-b.ensures c.gather-g.ensures in
    omega (arith, e.0, e.1)

pub loop-i-preserved-then-is_listed : goal.loop-i-preserved-then-is_listed
loop-i-preserved-then-is_listed c =
    let a = c.args in
    let e = next_run a.rows.now.marks.now a.rows.now.values.now c.loop-i.i (search rules) (listed (goal.at.loop-i-preserved-then-is_listed c).Then-is_listed) c.first_mark-a.result c.second_mark-b.result (as_run c.gather-g.result)
    c.first_mark-a.ensures c.second_mark-b.ensures c.gather-g.ensures in
    record {
      so_far = kept_on c.loop-i.invariant.so_far c.put_rising-k.auto.out c.put_rising-k.ensures;
      onward = λ r o w. c.loop-i.invariant.onward r o (as_rows (sym e) (then c.put_rising-k.ensures w));
    }

pub loop-i-preserved : goal.loop-i-preserved
loop-i-preserved c =
    let a = c.args in
    let ms = a.rows.now.marks.now in
    let vs = a.rows.now.values.now in
    let i = c.loop-i.i in
    let e = next_row ms vs i (search rules) (sym c.is_listed.ensures ∙ c.if-is_listed.false) in
    let read = ap (λ (u : ℕ). row (get_or ms i 0) u ∷ spelled_from outside (drop (i + 1) (paired ms vs))) c.value.ensures in
    record {
      so_far = kept_on c.loop-i.invariant.so_far c.put_row-k.auto.out c.put_row-k.ensures;
      onward = λ r o w. c.loop-i.invariant.onward r o (as_rows (read ∙ sym e) (then c.put_row-k.ensures w));
    }

pub shape_of-out : goal.shape_of-out
shape_of-out c = c.loop-i.invariant.so_far.size

pub returns : goal.returns
returns c =
    let a = c.args in
    as_rows (whole_rows (paired a.rows.now.marks.now a.rows.now.values.now))
    (c.loop-i.invariant.onward c.loop-i.k c.loop-i.out
    (as_rows (sym (no_row a.rows.now.marks.now a.rows.now.values.now c.loop-i.i (search rules))) (wrote_none c.loop-i.invariant.so_far.room)))
