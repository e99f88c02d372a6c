use borrow.Author.Rules.{rules}
use native.Mathlib.Omega.{arith}
use Rattle.settling.proofs.Weighing.{eight_more}
use Rattle.settling.proofs.amounts.past_others.Goals as goal

pub loop-i-init : goal.loop-i-init
loop-i-init c = record { rows_left = search rules; begun = search rules; others = λ k h l. absurd (omega arith) }

pub returns-then-four_marks-ge-GOAL : goal.returns-then-four_marks-ge-GOAL
returns-then-four_marks-ge-GOAL c = let p = c.loop-i.invariant in record {
  lower_bound = (p.begun, p.rows_left);
  by_index = p.others;
}

pub loop-i-preserved : goal.loop-i-preserved
loop-i-preserved c =
    let a = c.args in
    eight_more a.marks.now a.from c.loop-i.i c.four_marks.result c.four_marks-in-loop-i.result c.loop-i.invariant (search rules)
    c.four_marks.ensures c.four_marks-in-loop-i.ensures (search rules)

pub returns : goal.returns
returns c = let p = c.loop-i.invariant in record {
  lower_bound = (p.begun, p.rows_left);
  by_index = p.others;
}
