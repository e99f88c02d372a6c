use borrow.Author.Rules.{rules}
use mathlib.Core.Path.{◌≡◌, refl, sym, ap, ◌∙◌}
use mathlib.Core.Bool.{true, false}
use Prim.Native.Nat.{ℕ, suc, ◌+◌, ◌-◌}
use native.Mathlib.Omega.{arith}
use borrow.Author.Tests.{not-true, not-false}
use Rattle.state.specs.Member.{member}
use Rattle.reading.specs.Conditions.{reading, begin, evaluate_at}
use Rattle.reading.proofs.Reader.{finds, gives_up, gives_up_last, opens, passes_by, is_read, is_read_last, ended}
use Rattle.reading.proofs.conditions.condition.Goals as goal
use Rattle.reading.proofs.conditions.condition.Goals.{After-past_false-k}

pub loop-i-init : goal.loop-i-init
loop-i-init c = (search rules, search rules, refl)

-- the clause that row i opens, read up to its first row that is no false literal
opened : (c : After-past_false-k)
    → let a = c.args in
    evaluate_at (member a.s) (reading true false (c.loop-i.looked + (c.past_false-k.result - (c.loop-i.i + 1)))) a.rows.now.marks.now a.rows.now.values.now c.past_false-k.result
    ≡ evaluate_at (member a.s) begin a.rows.now.marks.now a.rows.now.values.now a.at
opened c =
    let a = c.args in
    sym (c.past_false-k.ensures.past_false.looks c.loop-i.looked)
    ∙ sym (opens (member a.s) a.rows.now.marks.now a.rows.now.values.now c.loop-i.i c.loop-i.looked (search rules) c.if-mark-eq-CLAUSE.true)
    ∙ c.loop-i.invariant.2

pub returns-then-rows-k : goal.returns-then-rows-k
returns-then-rows-k c =
    let a = c.args in record {
      value = c.outcome.ensures.0
          ∙ sym (gives_up_last (member a.s) a.rows.now.marks.now a.rows.now.values.now c.past_false-k.result _ (search rules)) ∙ opened (goal.at.returns-then-rows-k c).After-past_false-k;
      looked_bound = search rules;
    }

pub returns-then-not-is_literal : goal.returns-then-not-is_literal
returns-then-not-is_literal c =
    let a = c.args in
    let n : ℕ = c.loop-i.looked + (c.past_false-k.result - (c.loop-i.i + 1)) in record {
      value = c.outcome-then-not-is_literal.ensures.0
          ∙ ap (λ (j : ℕ). record { holds = false; looked = n; next = j }) (c.skip_marks.ensures.value ∙ ended a.rows.now.marks.now a.rows.now.values.now c.past_false-k.result)
          ∙ sym (gives_up (member a.s) a.rows.now.marks.now a.rows.now.values.now c.past_false-k.result n (search rules)
          (sym c.is_literal.ensures ∙ not-true _ c.if-not-is_literal.true-raw))
          ∙ opened (goal.at.returns-then-not-is_literal c).After-past_false-k;
      looked_bound = search rules;
    }

pub loop-i-preserved-then-mark-eq-CLAUSE : goal.loop-i-preserved-then-mark-eq-CLAUSE
loop-i-preserved-then-mark-eq-CLAUSE c =
    let a = c.args in
    let n : ℕ = c.loop-i.looked + (c.past_false-k.result - (c.loop-i.i + 1)) in
    let e : n + 1 ≡ suc n = omega arith in (
      search rules,
      search rules,
      ap (λ (j : ℕ). evaluate_at (member a.s) (reading true true j) a.rows.now.marks.now a.rows.now.values.now (c.past_false-k.result + 1)) e
          ∙ sym (finds (member a.s) a.rows.now.marks.now a.rows.now.values.now c.past_false-k.result n (search rules)
          (sym c.is_literal.ensures ∙ not-false _ c.if-not-is_literal.false-raw) (c.past_false-k.ensures.past_false.stops (search rules)))
          ∙ opened (goal.at.loop-i-preserved-then-mark-eq-CLAUSE c).After-past_false-k,
    )

pub returns-then-not-is_literal-2 : goal.returns-then-not-is_literal-2
returns-then-not-is_literal-2 c =
    let a = c.args in record {
      value = c.outcome-then-not-is_literal-2.ensures.0
          ∙ sym (is_read (member a.s) a.rows.now.marks.now a.rows.now.values.now c.loop-i.i c.loop-i.looked (search rules) c.if-mark-eq-CLAUSE.false
          (sym c.is_literal-else-mark-eq-CLAUSE.ensures ∙ not-true _ c.if-not-is_literal-2.true-raw))
          ∙ c.loop-i.invariant.2;
      looked_bound = search rules;
    }

pub loop-i-preserved : goal.loop-i-preserved
loop-i-preserved c =
    let a = c.args in (
      search rules,
      search rules,
      sym (passes_by (member a.s) a.rows.now.marks.now a.rows.now.values.now c.loop-i.i c.loop-i.looked (search rules)
          (sym c.is_literal-else-mark-eq-CLAUSE.ensures ∙ not-false _ c.if-not-is_literal-2.false-raw))
          ∙ c.loop-i.invariant.2,
    )

pub returns : goal.returns
returns c =
    let a = c.args in record {
      value = c.outcome-2.ensures.0
          ∙ sym (is_read_last (member a.s) a.rows.now.marks.now a.rows.now.values.now c.loop-i.i c.loop-i.looked (search rules)) ∙ c.loop-i.invariant.2;
      looked_bound = search rules;
    }
