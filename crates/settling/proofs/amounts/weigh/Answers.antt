use borrow.Author.Rules.{rules}
use mathlib.Core.Path.{refl, sym, ap, ◌∙◌}
use mathlib.Core.Bool.{true}
use Prim.Native.Nat.{ℕ, ◌+◌, ◌-◌}
use native.Mathlib.Omega.{arith}
use lib.ListN.{get_or}
use Rattle.task.specs.TaskRows.{row}
use Rattle.task.proofs.Reading.{goes_on, ends_at}
use Rattle.state.specs.Member.{bit}
use Rattle.layout.specs.Counting.{counting, count_at}
use Rattle.settling.specs.Amounts.{Weighed, nothing, weighed, as_weights}
use Rattle.settling.proofs.Weighing.{passed_by}
use Rattle.settling.proofs.amounts.weigh.Goals as goal

pub past_others-i-requires : goal.past_others-i-requires
past_others-i-requires c = record { inside = search rules; few = c.args.rows.now.fit.few }

pub past_others-i-requires-in-loop-i : goal.past_others-i-requires-in-loop-i
past_others-i-requires-in-loop-i c = record { inside = search rules; few = c.args.rows.now.fit.few }

pub loop-i-init : goal.loop-i-init
loop-i-init c =
    let a = c.args in
    let p = c.past_others-i in
    record {
      rows_left = search rules;
      few = search rules;
      little_met = search rules;
      little_missed = search rules;
      same = passed_by (weighed (bit a.met)) nothing a.rows.now.marks.now a.rows.now.values.now p.result 0 p.result (omega arith) (search rules) p.ensures.by_index;
    }

pub loop-i-preserved : goal.loop-i-preserved
loop-i-preserved c =
    let a = c.args in
    let one = weighed (bit a.met) in
    let i = c.loop-i.i in
    let p = c.past_others-i-in-loop-i in
    record {
      rows_left = search rules;
      few = search rules;
      little_met = search rules;
      little_missed = search rules;
      same =
          passed_by one (as_weights c.weigh_row-t.result) a.rows.now.marks.now a.rows.now.values.now (p.result - (i + 1)) (i + 1) p.result (omega arith)
          (search rules) p.ensures.by_index
          ∙ ap (λ (t : Weighed). count_at one t a.rows.now.marks.now a.rows.now.values.now (i + 1))
          (c.weigh_row-t.ensures.result_value
          ∙ ap (λ (v : ℕ). counting one (as_weights c.loop-i.t) (row (get_or a.rows.now.marks.now i 0) v)) c.value.ensures)
          ∙ sym (goes_on (counting one) (λ (m : ℕ). true) (λ (t : Weighed) (j : ℕ). t) (as_weights c.loop-i.t) a.rows.now.marks.now a.rows.now.values.now i
          (search rules) refl)
          ∙ c.loop-i.invariant.same;
    }

pub returns : goal.returns
returns c =
    let a = c.args in record {
      result_value = sym (ends_at (counting (weighed (bit a.met))) (λ (m : ℕ). true) (λ (t : Weighed) (i : ℕ). t) (as_weights c.loop-i.t) a.rows.now.marks.now
          a.rows.now.values.now c.loop-i.i (search rules))
          ∙ c.loop-i.invariant.same;
      met_bound = search rules;
    }
