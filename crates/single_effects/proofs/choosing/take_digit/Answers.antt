-- One literal leaves the number as it is (`one_literal`); else the digit is divided out.
use Prim.Native.Nat.{◌/◌, ◌<◌}
use native.Mathlib.Omega.{arith}
use native.Mathlib.Nat.{div-le_self, lt_of_le_of_lt}
use Rattle.single_effects.proofs.Picking.{one_literal}
use borrow.Author.Rules.{rules}
use Rattle.single_effects.proofs.choosing.take_digit.Goals as goal

pub returns-then-literals-eq1 : goal.returns-then-literals-eq1
returns-then-literals-eq1 c =
    one_literal c.args.p c.args.literals c.if-literals-eq1.true c.requires.one_of

pub overflow_cast-result : goal.overflow_cast-result
overflow_cast-result c =
    let a = c.args in
    let few : a.p.number < 4294967296 = search rules in
    record { fits = lt_of_le_of_lt (div-le_self a.p.number (a.p.choices / a.literals)) (omega arith) }
