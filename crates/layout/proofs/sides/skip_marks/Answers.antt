use borrow.Author.Rules.{rules}
use mathlib.Core.Path.{◌≡◌, refl, sym, ◌∙◌}
use native.Mathlib.Omega.{arith}
use lib.ListN.{length}
use Rattle.layout.proofs.Ends.{end_below, end_above, end_on, end_past}
use Rattle.layout.proofs.sides.skip_marks.Goals as goal

pub loop-i-init : goal.loop-i-init
loop-i-init c = (search rules, search rules, refl)

pub returns-then-mark-least : goal.returns-then-mark-least
returns-then-mark-least c =
    let a = c.args in record {
      lower_bound = (search rules, search rules);
      value = sym (end_below a.least a.most a.marks.now c.loop-i.i (search rules) (search rules)) ∙ c.loop-i.invariant.2;
    }

pub returns-then-most-mark : goal.returns-then-most-mark
returns-then-most-mark c =
    let a = c.args in record {
      lower_bound = (search rules, search rules);
      value = sym (end_above a.least a.most a.marks.now c.loop-i.i (search rules) (search rules) (search rules)) ∙ c.loop-i.invariant.2;
    }

pub loop-i-preserved : goal.loop-i-preserved
loop-i-preserved c =
    let a = c.args in (
      search rules,
      search rules,
      end_on a.least a.most a.marks.now c.loop-i.i (search rules) (search rules) (search rules) ∙ c.loop-i.invariant.2,
    )

pub returns : goal.returns
returns c =
    let a = c.args in
    let at_end : length a.marks.now ≡ c.loop-i.i = omega arith in record {
      lower_bound = (search rules, search rules);
      value = at_end ∙ sym (end_past a.least a.most a.marks.now c.loop-i.i (search rules)) ∙ c.loop-i.invariant.2;
    }
