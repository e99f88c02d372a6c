-- Where all four tests pass, no row opens an effect: no_four of Seeking.
use Rattle.lists.proofs.Tests.{as_t}
use Rattle.single_effects.proofs.Seeking.{no_four}
use Rattle.single_effects.proofs.wide.four_others.Goals as goal

pub returns : goal.returns
returns c = let a = c.args in λ t. no_four a.marks.now a.i (as_t t)
