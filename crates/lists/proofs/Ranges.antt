-- The numbers of a range, and lists made of them.
use mathlib.Core.Path.{◌≡◌, refl, sym, ap, ◌∙◌}
use mathlib.Core.List.{List, [], ◌∷◌, map}
use Prim.Native.Nat.{ℕ, zero, suc, ◌+◌, ◌≤◌, ◌<◌}
use native.Mathlib.Nat.{add-zero}
use native.Mathlib.Omega.{arith}
use lib.ListN.{length, take, drop, get_or}
use Rattle.lists.specs.Lists.{range}

pub length-range : (k n : ℕ) → length (range k n) ≡ n
length-range k zero = refl
length-range k (suc n) = ap suc (length-range (k + 1) n)

pub take_numbered : {A : Type 0} (g : ℕ → A) (k n m : ℕ) → n ≤ m → take n (map g (range k m)) ≡ map g (range k n)
take_numbered g k zero m h = refl
take_numbered g k (suc n) zero h = absurd (omega arith)
take_numbered {A} g k (suc n) (suc m) h = ap (λ (l : List A). g k ∷ l) (take_numbered g (k + 1) n m (omega arith))

pub drop-range : (k n i : ℕ) → i < n → drop i (range k n) ≡ (k + i) ∷ drop (suc i) (range k n)
drop-range k zero i h = absurd (omega arith)
drop-range k (suc n) zero h = ap (λ (j : ℕ). j ∷ range (k + 1) n) (sym (add-zero k))
drop-range k (suc n) (suc i) h =
    let shift : k + 1 + i ≡ k + suc i = omega arith in
    drop-range (k + 1) n i (omega arith) ∙ ap (λ (j : ℕ). j ∷ drop (suc i) (range (k + 1) n)) shift

pub get_d_range : (k n i : ℕ) → i < n → get_or (range k n) i 0 ≡ k + i
get_d_range k zero i h = absurd (omega arith)
get_d_range k (suc n) zero h = sym (add-zero k)
get_d_range k (suc n) (suc i) h =
    let shift : k + 1 + i ≡ k + suc i = omega arith in
    get_d_range (k + 1) n i (omega arith) ∙ shift

pub drop-map : {A B : Type 0} (g : A → B) (i : ℕ) (xs : List A) → drop i (map g xs) ≡ map g (drop i xs)
drop-map g zero xs = refl
drop-map g (suc i) [] = refl
drop-map g (suc i) (x ∷ xs) = drop-map g i xs
