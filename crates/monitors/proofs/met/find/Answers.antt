use borrow.Author.Rules.{rules}
use mathlib.Core.Path.{refl, sym, ap, ◌∙◌}
use mathlib.Core.Bool.{true}
use Prim.Native.Nat.{ℕ, ◌+◌}
use Rattle.task.specs.Rows.{value_at}
use Rattle.task.proofs.Reading.{goes_on, ends_at}
use Rattle.layout.specs.Counting.{counting, count_at}
use Rattle.monitors.specs.Met.{Met, found, as_found}
use Rattle.monitors.proofs.met.find.Goals as goal

pub loop-i-init : goal.loop-i-init
loop-i-init c = record { rows_left = search rules; few = search rules; fewer = search rules; same = λ vs. rw c.none.ensures }

pub loop-i-preserved : goal.loop-i-preserved
loop-i-preserved c =
    let a = c.args in
    let one = found a.ms.now in
    record {
      rows_left = search rules;
      few = search rules;
      fewer = search rules;
      same = λ vs.
          ap (λ (t : Met). count_at one t a.marks.now vs (c.loop-i.i + 1)) (c.find_row-f.ensures.by_index (value_at vs c.loop-i.i))
          ∙ sym (goes_on (counting one) (λ (m : ℕ). true) (λ (t : Met) (i : ℕ). t) (as_found c.loop-i.f) a.marks.now vs c.loop-i.i (search rules) refl)
          ∙ c.loop-i.invariant.same vs;
    }

pub returns : goal.returns
returns c = λ vs.
    let a = c.args in
    sym (ends_at (counting (found a.ms.now)) (λ (m : ℕ). true) (λ (t : Met) (i : ℕ). t) (as_found c.loop-i.f) a.marks.now vs c.loop-i.i (search rules))
    ∙ c.loop-i.invariant.same vs
