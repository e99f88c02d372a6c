-- A clause or a literal, as `tallied` takes it in.
use mathlib.Core.Path.{ap}
use Prim.Native.Nat.{ℕ, ◌+◌}
use borrow.Author.Tests.{eq-eqb, ne_eqb}
use Rattle.single_effects.proofs.Counting.{product_fits}
use Rattle.single_effects.proofs.shapes.take_in.Goals as goal

pub overflow_mul-choices : goal.overflow_mul-choices
overflow_mul-choices c = record { fits = product_fits c.args.t c.requires }

pub returns-then-mark-eq-CLAUSE : goal.returns-then-mark-eq-CLAUSE
returns-then-mark-eq-CLAUSE c = λ v.
    let a = c.args in
    rw (eq-eqb a.mark 3 c.if-mark-eq-CLAUSE.true) (ap (λ (n : ℕ). record { choices = n; literals = 0; clauses = a.t.clauses + 1 }) c.min.ensures)

pub returns : goal.returns
returns c = λ v. rw (ne_eqb c.args.mark 3 c.if-mark-eq-CLAUSE.false)
