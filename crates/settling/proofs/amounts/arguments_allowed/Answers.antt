-- A word shifted by P is 0 where it has no bit from P on, by `Settling`.
use borrow.Author.Rules.{rules}
use Rattle.settling.proofs.Settling.{arguments}
use Rattle.settling.proofs.amounts.arguments_allowed.Goals as goal

pub returns : goal.returns
returns c = let a = c.args in arguments a.preferences a.cost a.met (search rules) (search rules)
