-- The branches compute; beyond two words there is none, by `Words`.
use Prim.Native.Nat.{◌/◌}
use native.Mathlib.Omega.{arith}
use Rattle.state.proofs.Words.{no_word}
use Rattle.state.proofs.word_of.Goals as goal

pub returns-in-0 : goal.returns-in-0
returns-in-0 c = rw c.in-0.is

pub returns-in-1 : goal.returns-in-1
returns-in-1 c = rw c.in-1.is

pub returns-in_default : goal.returns-in_default
returns-in_default c =
    let a = c.args in
    no_word (record { low = a.low; high = a.high }) (a.n / 64) (omega (arith, c.in_default.in_default-own.rest.0, c.in_default.in_default-own.rest.1))
