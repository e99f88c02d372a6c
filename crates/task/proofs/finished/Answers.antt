-- By may_end's answer and by the counts, each refusal and the acceptance is what finish computes.
use mathlib.Core.Path.{◌≡◌, sym, ◌∙◌}
use mathlib.Core.Bool.{true, false}
use borrow.Author.Tests.{not-true, not-false}
use Rattle.task.specs.Check.{may_end}
use Rattle.task.specs.Contexts.{numbered}
use Rattle.task.proofs.finished.Goals as goal

pub returns-then-not-may_end : goal.returns-then-not-may_end
returns-then-not-may_end c =
    let e : may_end (numbered c.args.w.context) ≡ false =
    sym c.may_end.ensures ∙ not-true _ c.if-not-may_end.true-raw in
    rw (c.at.ensures, e)

pub returns-then-w-z : goal.returns-then-w-z
returns-then-w-z c =
    let e : may_end (numbered c.args.w.context) ≡ true = sym c.may_end.ensures ∙ not-false _ c.if-not-may_end.false-raw in
    rw (e, c.if-w-z.true)

pub returns-else-w-z : goal.returns-else-w-z
returns-else-w-z c =
    let e : may_end (numbered c.args.w.context) ≡ true = sym c.may_end.ensures ∙ not-false _ c.if-not-may_end.false-raw in
    rw (c.at-else-w-z.ensures, e, c.if-w-z.false)
