-- The sides are those of `sides_at`, and stand within the rows, by `SidesRead`.
use mathlib.Core.Path.{◌≡◌, sym, ap, ◌∙◌}
use Prim.Native.Nat.{ℕ, ◌+◌}
use native.Mathlib.Omega.{arith}
use borrow.Author.Rules.{rules}
use borrow.Author.Tests.{not-true, not-false}
use lib.ListN.{get_or}
use Rattle.task.specs.File.{soft_mark}
use Rattle.reading.specs.Conditions.{begin, evaluate_at}
use Rattle.state.specs.Member.{member}
use Rattle.monitors.specs.Monitors.{head_rows, is_two_sided, first_side}
use Rattle.monitors.proofs.ByMark.{head_most}
use Rattle.monitors.proofs.SidesRead.{few_rows, later, later_still, one_read, both_read}
use Rattle.monitors.proofs.read_sides.Goals as goal
use Rattle.monitors.proofs.read_sides.Goals.{After-condition-first}

-- φ begins after the opening row, and after the steps
first_read : (c : After-condition-first) → let a = c.args in
    c.condition-first.result ≡ first_side (member a.s) a.rows.now.marks.now a.rows.now.values.now a.i
first_read c =
    let a = c.args in
    c.condition-first.ensures.value
    ∙ ap (λ (n : ℕ). evaluate_at (member a.s) begin a.rows.now.marks.now a.rows.now.values.now (a.i + n))
    (c.head_rows.ensures ∙ ap head_rows c.soft_mark-mark.ensures)

pub overflow_add-i : goal.overflow_add-i
overflow_add-i c =
    let m = head_most c.soft_mark-mark.result in
    let e = c.head_rows.ensures in
    search rules

pub returns-then-not-is_two_sided : goal.returns-then-not-is_two_sided
returns-then-not-is_two_sided c =
    let a = c.args in record {
      i_lt_next = (
        later a.rows.now.marks.now a.rows.now.values.now (member a.s) a.i c.condition-first.result (soft_mark (get_or a.rows.now.marks.now a.i 0)) (first_read (goal.at.returns-then-not-is_two_sided c).After-condition-first),
        search rules,
      );
      value = one_read a.rows.now.marks.now a.rows.now.values.now (member a.s) a.i c.condition-first.result (first_read (goal.at.returns-then-not-is_two_sided c).After-condition-first)
          (sym (c.is_two_sided.ensures ∙ ap is_two_sided c.soft_mark-mark.ensures) ∙ not-true _ c.if-not-is_two_sided.true-raw);
    }

pub overflow_add-first : goal.overflow_add-first
overflow_add-first c =
    let a = c.args in
    let m = head_most (soft_mark (get_or a.rows.now.marks.now a.i 0)) in
    let l = few_rows a.rows.now.marks.now a.rows.now.values.now (member a.s) _ c.condition-first.result (first_read (goal.at.overflow_add-first c).After-condition-first) in
    search rules

pub returns : goal.returns
returns c =
    let a = c.args in record {
      i_lt_next = (
        omega (
          arith,
          later a.rows.now.marks.now a.rows.now.values.now (member a.s) a.i c.condition-first.result (soft_mark (get_or a.rows.now.marks.now a.i 0)) (first_read (goal.at.returns c).After-condition-first),
          later_still a.rows.now.marks.now a.rows.now.values.now (member a.s) c.condition-first.result.next c.condition-second.result c.condition-second.ensures.value,
        ),
        omega (arith, c.args.rows.now.fit.few, c.condition-first.ensures.looked_bound.1, c.condition-second.ensures.looked_bound.1),
      );
      value = both_read a.rows.now.marks.now a.rows.now.values.now (member a.s) a.i c.condition-first.result (first_read (goal.at.returns c).After-condition-first)
          (sym (c.is_two_sided.ensures ∙ ap is_two_sided c.soft_mark-mark.ensures) ∙ not-false _ c.if-not-is_two_sided.false-raw)
          c.condition-second.result c.condition-second.ensures.value;
    }
