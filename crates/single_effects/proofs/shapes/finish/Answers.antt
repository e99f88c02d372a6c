-- The numbers of a condition that has ended.
use mathlib.Core.Path.{ap}
use Prim.Native.Nat.{ℕ}
use Rattle.single_effects.proofs.Counting.{product_fits}
use Rattle.single_effects.proofs.shapes.finish.Goals as goal

pub overflow_mul-t : goal.overflow_mul-t
overflow_mul-t c = record { fits = product_fits c.args.t c.requires }

pub returns : goal.returns
returns c =
    let a = c.args in
    ap (λ (n : ℕ). record { choices = n; clauses = a.t.clauses; next = a.i }) c.min.ensures
