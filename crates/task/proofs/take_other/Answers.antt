-- A soft preference's value is a weight and it is counted; of the others those of hard ones are counted.
use mathlib.Core.Path.{◌≡◌, refl, sym, ◌∙◌}
use mathlib.Core.Bool.{true, false}
use native.Mathlib.Omega.{arith}
use borrow.Author.Rules.{rules}
use borrow.Author.Tests.{ne_eqb}
use Rattle.task.specs.Marks.{ACTION, START}
use Rattle.task.specs.File.{opens_soft}
use Rattle.task.proofs.Values.{count-le, of_preference}
use Rattle.task.proofs.Taking.{took}
use Rattle.task.proofs.take_other.Goals as goal

pub returns-then-opens_soft : goal.returns-then-opens_soft
returns-then-opens_soft c =
    let a = c.args in
    let soft : opens_soft a.mark ≡ true = sym c.opens_soft.ensures ∙ c.if-opens_soft.true in
    took _ _ a.w a.context _ _ _ c.then_some.ensures (sym (of_preference a.facts a.w.floor a.mark a.value soft))
    record {
      progress = rw (ne_eqb a.mark START c.requires.1, ne_eqb a.mark ACTION c.requires.2, soft);
      context = refl;
      actions = search rules;
      preferences = search rules;
    }

pub returns : goal.returns
returns c =
    let a = c.args in
    let hard : opens_soft a.mark ≡ false = sym c.opens_soft.ensures ∙ c.if-opens_soft.false in
    took _ _ a.w a.context _ _ _ c.then_some-2.ensures c.value_allowed.ensures
    record {
      progress = rw (
        ne_eqb a.mark START c.requires.1,
        ne_eqb a.mark ACTION c.requires.2,
        hard,
        c.counted.ensures,
        c.opens_hard.ensures,
      );
      context = refl;
      actions = search rules;
      preferences = omega (arith, c.counted.ensures, count-le c.opens_hard.result a.w.preferences);
    }
