-- The clause that is known ends where it is known to; any other is gone through.
use mathlib.Core.Path.{◌≡◌, sym, ap, ◌∙◌}
use Prim.Native.Nat.{ℕ, ◌+◌}
use native.Mathlib.Omega.{arith}
use Rattle.task.specs.Marks.{HOLDS, LACKS}
use Rattle.layout.specs.Sides.{end_at}
use Rattle.single_effects.proofs.choosing.clause_end.Goals as goal

pub returns-then-i-known : goal.returns-then-i-known
returns-then-i-known c =
    let a = c.args in
    let same : a.i ≡ a.known.from = c.if-i-known.true in
    c.requires.1 (omega (arith, c.requires.0)) ∙ ap (λ (n : ℕ). end_at HOLDS LACKS a.marks.now (n + 1)) (sym same)
