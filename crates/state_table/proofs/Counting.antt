-- Slots that are not empty, counted.
use mathlib.Core.Path.{◌≡◌, refl}
use mathlib.Core.Bool.{Bool, true, false, cond}
use mathlib.Core.List.{List, [], ◌∷◌}
use Prim.Native.Nat.{ℕ, zero, suc, ◌<◌, ◌≤◌}
use native.Mathlib.Omega.{arith}
use lib.Dec.{eqb}
use lib.ListN.{length, get_or, set}
use borrow.Author.Tests.{ne_eqb}
use Rattle.state_table.specs.Table.{taken}

-- at most one slot more is taken by a store
pub taken-set : (es : List ℕ) (r v : ℕ) → taken (set es r v) ≤ suc (taken es)
taken-set [] r v = omega arith
taken-set (e ∷ es) zero v = go (eqb v 0) (eqb e 0)
  where
    go : (a b : Bool) → cond a (taken es) (suc (taken es)) ≤ suc (cond b (taken es) (suc (taken es)))
    go true true = omega arith
    go true false = omega arith
    go false true = omega arith
    go false false = omega arith
taken-set (e ∷ es) (suc r) v = go (eqb e 0) (taken-set es r v)
  where
    go : (b : Bool) → taken (set es r v) ≤ suc (taken es) → cond b (taken (set es r v)) (suc (taken (set es r v))) ≤ suc (cond b (taken es) (suc (taken es)))
    go true h = h
    go false h = omega arith

-- where no slot is empty, as many are taken as there are
pub all-taken : (es : List ℕ) → ((r : ℕ) → r < length es → get_or es r 0 ≡ 0 → ⊥) → taken es ≡ length es
all-taken [] f = refl
all-taken (e ∷ es) f =
    rw (ne_eqb e 0 (f 0 (omega arith)), all-taken es (λ r h. f (suc r) (omega arith)))
