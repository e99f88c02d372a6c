-- One state more, kind by kind.
use mathlib.Core.Path.{subst}
use lib.Dec.{T, leb→le}
use borrow.Author.Rules.{rules}
use Rattle.task.specs.Spelling.{kind_spellable}
use Rattle.task.specs.Answers.{as_kind}
use Rattle.task.specs.declared.kinds.Kind.{Kind}
use Rattle.task.specs.Limits.{MAX_DEADLINE}
use Rattle.monitor.proofs.stepped.Goals as goal

pub older-requires : goal.older-requires
older-requires c = record { few = leb→le _ MAX_DEADLINE (subst (λ (k : Kind). T (kind_spellable (as_kind k))) c.in-Within.is (search rules)); short = search rules }

pub waiting-requires : goal.waiting-requires
waiting-requires c = record { few = leb→le _ MAX_DEADLINE (subst (λ (k : Kind). T (kind_spellable (as_kind k))) c.in-AlwaysWithin.is (search rules)); short = search rules }

pub returns-in-Always : goal.returns-in-Always
returns-in-Always c = (rw c.in-Always.is, search rules)

pub returns-in-Sometime : goal.returns-in-Sometime
returns-in-Sometime c = (rw c.in-Sometime.is, search rules)

pub returns-in-AtEnd : goal.returns-in-AtEnd
returns-in-AtEnd c = (rw c.in-AtEnd.is, search rules)

pub returns-in-AtMostOnce : goal.returns-in-AtMostOnce
returns-in-AtMostOnce c = (rw c.in-AtMostOnce.is, search rules)

pub returns-in-SometimeBefore : goal.returns-in-SometimeBefore
returns-in-SometimeBefore c = (rw c.in-SometimeBefore.is, search rules)

pub returns-in-SometimeAfter : goal.returns-in-SometimeAfter
returns-in-SometimeAfter c = (rw c.in-SometimeAfter.is, search rules)

pub returns-in-Within : goal.returns-in-Within
returns-in-Within c = (rw (c.in-Within.is, c.older.ensures.0), c.older.ensures.1)

pub returns-in-AlwaysWithin : goal.returns-in-AlwaysWithin
returns-in-AlwaysWithin c = (rw c.in-AlwaysWithin.is (c.waiting.ensures.0 c.args.last), c.waiting.ensures.1)
