-- The difference of two amounts fits 64 bits, by `Difference`.
use borrow.Author.Rules.{rules}
use mathlib.Core.Path.{refl}
use Rattle.settling.proofs.Difference.{difference_fits, difference}
use Rattle.settling.proofs.amounts.worth.Goals as goal

pub overflow_sub-result : goal.overflow_sub-result
overflow_sub-result c = let a = c.args in difference_fits a.t.met a.cost (search rules) (search rules)

pub returns : goal.returns
returns c =
    let a = c.args in
    (refl, difference a.t.met a.cost (search rules) (search rules))
