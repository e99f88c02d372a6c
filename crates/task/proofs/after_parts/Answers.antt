use borrow.Author.Rules.{rules}
use mathlib.Core.Path.{◌≡◌, refl, sym, ◌∙◌}
use mathlib.Core.Bool.{◌&&◌}
use lib.Dec.{T}
use lib.ListN.{get_or, length}
use native.Mathlib.Omega.{arith}
use borrow.Author.Tests.{not-false}
use Rattle.lists.proofs.Tests.{as_t}
use Rattle.task.specs.Marks.{EFFECT, DELETE}
use Rattle.task.specs.TaskRows.{row}
use Rattle.task.specs.Check.{value_allowed}
use Rattle.task.specs.Rows.{value_at, between}
use Rattle.task.specs.Contexts.{leads_alike}
use Rattle.task.proofs.CheckSteps.{part_below, one_part}
use Rattle.task.proofs.after_parts.Goals as goal
use Rattle.task.proofs.after_parts.Goals.{Else-not-is_plain}

pub loop-i-init : goal.loop-i-init
loop-i-init c = record { rows_left = search rules; begun = search rules; numbered_below = search rules; same = refl }

pub is_plain-requires : goal.is_plain-requires
is_plain-requires c = (c.requires.0, search rules, search rules)

pub next-context-requires : goal.next-context-requires
next-context-requires c = (c.requires.0, search rules)

pub returns-then-not-is_plain : goal.returns-then-not-is_plain
returns-then-not-is_plain c =
    let k = c.loop-i.invariant in
    record {
      w_value = k.same;
      context_bound = (k.numbered_below, k.begun, k.rows_left);
    }

-- what is_plain answered of the row read
plain : (c : Else-not-is_plain)
    → let a = c.args in
    let m = get_or a.rows.now.marks.now c.loop-i.i 0 in
    T (between EFFECT DELETE m && leads_alike c.widest_from-widest.result c.loop-i.context m
    && value_allowed a.z.facts a.w.floor (row m (value_at a.rows.now.values.now c.loop-i.i)))
plain c = as_t (sym (rw c.value-value.ensures at c.is_plain.ensures) ∙ not-false _ c.if-not-is_plain.false-raw)

pub loop-i-preserved : goal.loop-i-preserved
loop-i-preserved c =
    let a = c.args in
    let i = c.loop-i.i in
    let n = c.loop-i.context in
    record {
      rows_left = search rules;
      begun = search rules;
      numbered_below =
          part_below a.z a.rows.now.marks.now a.rows.now.values.now a.w i n c.widest_from-widest.result c.next-context.result (search rules)
          c.next-context.ensures (plain (goal.at.loop-i-preserved c).Else-not-is_plain);
      same =
          sym (one_part a.z a.rows.now.marks.now a.rows.now.values.now a.w i n c.widest_from-widest.result c.next-context.result (search rules)
          c.next-context.ensures (plain (goal.at.loop-i-preserved c).Else-not-is_plain))
          ∙ c.loop-i.invariant.same;
    }

pub returns : goal.returns
returns c =
    let k = c.loop-i.invariant in
    let e : c.loop-i.i ≡ length c.args.rows.now.marks.now = omega arith in
    record {
      w_value = rw (← e) k.same;
      context_bound = (k.numbered_below, search rules, omega arith);
    }
