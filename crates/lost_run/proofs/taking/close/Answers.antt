-- The one action that closes the rule, by `Closing`.
use borrow.Author.Tests.{not-true, not-false}
use Rattle.lost_run.proofs.Closing.{stays, closes}
use borrow.Author.Rules.{rules}
use Rattle.lost_run.proofs.taking.close.Goals as goal

pub returns-then-not-j-closing : goal.returns-then-not-j-closing
returns-then-not-j-closing c =
    let a = c.args in
    (stays a.x a.actions a.j a.p c.closing.result c.closing.ensures (not-true _ c.if-not-j-closing.true-raw), tt)

pub returns : goal.returns
returns c =
    let a = c.args in
    (closes a.x a.actions a.j a.p c.closing.result c.closing.ensures (not-false _ c.if-not-j-closing.false-raw) c.paid.result c.paid.ensures.0, search rules)
