-- The changed facts, if an effect is open.
use borrow.Author.Tests.{not-true, not-false}
use Rattle.writer.proofs.Putting.{wrote_none}
use borrow.Author.Rules.{rules}
use Rattle.effects.proofs.close_effect.Goals as goal

pub returns-then-not-begun : goal.returns-then-not-begun
returns-then-not-begun c = let a = c.args in rw (not-true a.begun c.if-not-begun.true-raw) (wrote_none (search rules))

pub returns : goal.returns
returns c =
    rw (not-false c.args.begun c.if-not-begun.false-raw) c.put_change.ensures
