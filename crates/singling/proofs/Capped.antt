-- Counting no further than 65 tells which effects have over 64 choices.
use mathlib.Core.Path.{◌≡◌, refl, sym, ap, ◌∙◌}
use mathlib.Core.Bool.{Bool, true, false}
use mathlib.Core.List.{[], ◌∷◌}
use Prim.Native.Nat.{ℕ, zero, suc, ◌*◌, ◌≤◌, ◌<◌}
use native.Mathlib.Nat.{mul-zero, mul-one, one-mul, mul_assoc, mul-suc}
use native.Mathlib.Omega.{arith}
use lib.Dec.{leb, ltb}
use lib.ListN.{length}
use borrow.Author.Tests.{leb-true, leb-false}
use Rattle.meaning.specs.Task.{Condition}
use Rattle.singling.specs.Singled.{choice_count}
use Rattle.singling.specs.Wide.{is_wide}
use Rattle.singling.specs.Capped.{capped, count_on}

capped_times : (a b : ℕ) → capped (capped a * b) ≡ capped (a * b)
capped_times a zero = ap capped (mul-zero (capped a) ∙ sym (mul-zero a))
capped_times a (suc b) = go (leb a 65) refl
  where
    go : (t : Bool) → leb a 65 ≡ t → capped (capped a * suc b) ≡ capped (a * suc b)
    go true e = let h : a ≤ 65 = leb-true a 65 e in let same : capped a ≡ a = omega arith in ap (λ (n : ℕ). capped (n * suc b)) same
    go false e =
        let h : 65 < a = leb-false a 65 e in
        let same : capped a ≡ 65 = omega arith in
        ap (λ (n : ℕ). capped (n * suc b)) same ∙ omega (arith, mul-suc a b)

count_on_lem : (n : ℕ) (c : Condition) → count_on (capped n) c ≡ capped (n * choice_count c)
count_on_lem n [] = ap capped (sym (mul-one n))
count_on_lem n (k ∷ c) =
    ap (λ (m : ℕ). count_on m c) (capped_times n (length k))
    ∙ count_on_lem (n * length k) c
    ∙ ap capped (mul_assoc n (length k) (choice_count c))

-- from 1 on
pub counted : (c : Condition) → count_on 1 c ≡ capped (choice_count c)
counted c = count_on_lem 1 c ∙ ap capped (one-mul (choice_count c))

pub counted_wide : (c : Condition) → ltb 64 (count_on 1 c) ≡ is_wide c
counted_wide c = ap (ltb 64) (counted c) ∙ go (leb 65 (choice_count c)) refl
  where
    go : (t : Bool) → leb 65 (choice_count c) ≡ t → ltb 64 (capped (choice_count c)) ≡ is_wide c
    go true e =
        let h : 65 ≤ choice_count c = leb-true 65 (choice_count c) e in
        let same : capped (choice_count c) ≡ 65 = omega arith in
        ap (ltb 64) same ∙ sym e
    go false e =
        let h : choice_count c < 65 = leb-false 65 (choice_count c) e in
        let same : capped (choice_count c) ≡ choice_count c = omega arith in
        ap (ltb 64) same
