-- The step is written where it is below the number of actions, and nothing else: the test decides the filter.
use borrow.Author.Rules.{rules}
use borrow.Author.Tests.{lt-ltb, le-ltb}
use native.Mathlib.Omega.{arith}
use Rattle.text.proofs.Writing.{no_bytes}
use Rattle.source.proofs.parts.put_below.Goals as goal

pub returns-then-step-actions : goal.returns-then-step-actions
returns-then-step-actions c =
    let a = c.args in
    record {
      wrote = rw (lt-ltb a.step a.actions c.if-step-actions.true) c.put_byte.ensures;
      upper_bound = omega (arith, c.put_byte.ensures.after);
    }

pub returns : goal.returns
returns c =
    let a = c.args in
    record {
      wrote = rw (le-ltb a.step a.actions c.if-step-actions.false) (no_bytes a.out.now a.at);
      upper_bound = search rules;
    }
