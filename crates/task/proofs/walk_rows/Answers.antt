use borrow.Author.Rules.{rules}
use mathlib.Core.Path.{refl, sym, ◌∙◌}
use Prim.Native.Nat.{◌<◌}
use Rattle.task.proofs.CheckSteps.{ended, no_mark, no_value, one_row, below}
use Rattle.task.proofs.walk_rows.Goals as goal
use Rattle.task.proofs.walk_rows.Goals.{In-Some}

pub loop-i-init : goal.loop-i-init
loop-i-init c =
    record { rows_left = search rules; numbered_below = search rules; few_actions = search rules; few_preferences = search rules; same = refl }

pub next-context-requires : goal.next-context-requires
next-context-requires c = (refl, search rules)

pub returns-then-context-eq-REFUSED : goal.returns-then-context-eq-REFUSED
returns-then-context-eq-REFUSED c =
    let a = c.args in
    rw c.at.ensures (sym (no_mark a.z a.rows.now.marks.now a.rows.now.values.now c.loop-i.w c.loop-i.i (search rules)
    c.next-context.result c.next-context.ensures c.if-context-eq-REFUSED.true)
    ∙ c.loop-i.invariant.same)

pub returns-in_default : goal.returns-in_default
returns-in_default c =
    let a = c.args in
    rw c.at-in_default.ensures (sym (no_value a.z a.rows.now.marks.now a.rows.now.values.now c.loop-i.w c.loop-i.i (search rules)
    c.next-context.result c.next-context.ensures c.if-context-eq-REFUSED.false (rw c.value-value.ensures at c.in_default.ensures))
    ∙ c.loop-i.invariant.same)

-- the context after the row is one of the table's
context_below : (c : In-Some) → c.in-Some.next.context < 20
context_below c =
    let a = c.args in
    rw c.in-Some.ensures.1.context
    (below a.z a.rows.now.marks.now a.rows.now.values.now c.loop-i.w c.loop-i.i (search rules)
    c.next-context.result c.next-context.ensures c.if-context-eq-REFUSED.false)

pub after_parts-parts-requires : goal.after_parts-parts-requires
after_parts-parts-requires c = (refl, context_below (goal.at.after_parts-parts-requires c).In-Some, search rules)

pub loop-i-preserved : goal.loop-i-preserved
loop-i-preserved c =
    let a = c.args in
    let followed = c.in-Some.ensures.1 in
    record {
      rows_left = search rules;
      numbered_below = search rules;
      few_actions = search rules;
      few_preferences = search rules;
      same =
          c.after_parts-parts.ensures.w_value
          ∙ rw (followed.progress, c.value-value.ensures)
          (sym (one_row a.z a.rows.now.marks.now a.rows.now.values.now c.loop-i.w c.loop-i.i (search rules)
          c.next-context.result c.next-context.ensures c.if-context-eq-REFUSED.false
          (rw c.value-value.ensures at c.in-Some.ensures.0))
          ∙ c.loop-i.invariant.same);
    }

pub returns : goal.returns
returns c =
    let a = c.args in
    let i = c.loop-i.i in
    let w = c.loop-i.w in
    c.finished.ensures ∙ sym (ended a.z a.rows.now.marks.now a.rows.now.values.now w i (search rules)) ∙ c.loop-i.invariant.same
