-- The first of a list that fails a test.
use mathlib.Core.Path.{◌≡◌, refl, ap₂}
use mathlib.Core.Bool.{Bool, true, false, cond, ◌&&◌, true≢false}
use mathlib.Core.List.{List, [], ◌∷◌}
use Prim.Native.Nat.{ℕ, suc, ◌<◌, ◌≤◌}
use native.Mathlib.Omega.{arith}
use lib.ListN.{length, get_or, take}
use Rattle.lists.specs.Lists.{all, first_failing}

-- number i of a list is the first that fails a test: those before it pass
pub record Lowest {A : Type 0} (ok : A → Bool) (xs : List A) (d : A) (i : ℕ) : Type 0 where
  pub within : i < length xs
  pub here : ok (get_or xs i d) ≡ false
  pub before : all ok (take i xs) ≡ true

pub lowest : {A : Type 0} (ok : A → Bool) (xs : List A) (d : A) → all ok xs ≡ false → Lowest ok xs d (first_failing ok xs)
lowest ok [] d e = absurd (true≢false e)
lowest ok (x ∷ xs) d e = go (ok x) refl e (lowest ok xs d)
  where
    go : (b : Bool) → ok x ≡ b → (b && all ok xs) ≡ false → (all ok xs ≡ false → Lowest ok xs d (first_failing ok xs))
        → Lowest ok (x ∷ xs) d (cond b (suc (first_failing ok xs)) 0)
    go true a e rest =
        let r : Lowest ok xs d (first_failing ok xs) = rest e in
        record { within = omega (arith, r.within); here = r.here; before = ap₂ ◌&&◌ a r.before }
    go false a e rest = record { within = omega arith; here = a; before = refl }

-- the first that fails stands in the list where one fails, and after it where none does
pub one_fails : {A : Type 0} (ok : A → Bool) (xs : List A) → first_failing ok xs < length xs → all ok xs ≡ false
one_fails ok [] h = absurd (omega arith)
one_fails ok (x ∷ xs) h = go (ok x) h (one_fails ok xs)
  where
    go : (b : Bool) → cond b (suc (first_failing ok xs)) 0 < length (x ∷ xs) → (first_failing ok xs < length xs → all ok xs ≡ false) → (b && all ok xs) ≡ false
    go true h rest = rest (omega arith)
    go false h rest = refl

pub none_fails : {A : Type 0} (ok : A → Bool) (xs : List A) → length xs ≤ first_failing ok xs → all ok xs ≡ true
none_fails ok [] h = refl
none_fails ok (x ∷ xs) h = go (ok x) h (none_fails ok xs)
  where
    go : (b : Bool) → length (x ∷ xs) ≤ cond b (suc (first_failing ok xs)) 0 → (length xs ≤ first_failing ok xs → all ok xs ≡ true) → (b && all ok xs) ≡ true
    go true h rest = rest (omega arith)
    go false h rest = absurd (omega arith)
