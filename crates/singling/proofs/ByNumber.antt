-- The choices are those of the numbers from 0 on, in their order.
use mathlib.Core.Path.{◌≡◌, refl, sym, ap, ap₂, ◌∙◌}
use mathlib.Core.Bool.{Bool, true, false}
use mathlib.Core.List.{List, [], ◌∷◌, ◌++◌, map}
use Prim.Native.Nat.{ℕ, zero, suc, ◌+◌, ◌-◌, ◌*◌, ◌/◌, ◌%◌, ◌≤◌, ◌<◌}
use native.Mathlib.Nat.{suc-mul, mod-lt, mod-eq_of_lt, mod-eq-sub-mod, div-eq_of_lt, div-eq-sub-div, le_of_suc-le-suc, not-suc-le-zero, zero-mul, mul-zero}
use native.Mathlib.Numerals.{add-one}
use native.Mathlib.Omega.{arith}
use lib.Dec.{leb}
use lib.ListN.{length, get_or, length-map, get_or-append, get_or-map}
use borrow.Author.Tests.{leb-true, leb-false}
use Rattle.lists.specs.Lists.{concat_map, range}
use Rattle.meaning.specs.Task.{Literal, Condition}
use Rattle.singling.specs.Singled.{choices, choice_count}
use Rattle.singling.specs.ByNumber.{no_literal, choice_at}
use Rattle.singling.proofs.Choices.{taking, choices_counted}

-- Places in lists

module _ {A : Type 0} where
  place_after : (xs ys : List A) (i : ℕ) (d : A) → length xs ≤ i → get_or (xs ++ ys) i d ≡ get_or ys (i - length xs) d
  place_after [] ys i d h = ap (λ (j : ℕ). get_or ys j d) (omega arith)
  place_after (x ∷ xs) ys zero d h = absurd (not-suc-le-zero h)
  place_after (x ∷ xs) ys (suc i) d h =
      place_after xs ys i d (le_of_suc-le-suc h) ∙ ap (λ (j : ℕ). get_or ys j d) (omega arith)

  -- what stands for a missing place does not matter
  place_within : (xs : List A) (i : ℕ) (d e : A) → i < length xs → get_or xs i d ≡ get_or xs i e
  place_within [] i d e h = absurd (not-suc-le-zero h)
  place_within (x ∷ xs) zero d e h = refl
  place_within (x ∷ xs) (suc i) d e h = place_within xs i d e (le_of_suc-le-suc h)

  -- a list is what stands at its places
  by_place : (f : ℕ → A) (k : ℕ) (xs : List A) (d : A) → ((i : ℕ) → i < length xs → get_or xs i d ≡ f (k + i)) → xs ≡ map f (range k (length xs))
  by_place f k [] d h = refl
  by_place f k (x ∷ xs) d h =
      ap₂ ◌∷◌ (h 0 (omega arith) ∙ ap f (omega arith))
      (by_place f (k + 1) xs d (λ i l. h (suc i) (omega arith) ∙ ap f (omega arith)))

positive : (i n m : ℕ) → i < n * m → 0 < m
positive i n zero h = absurd (omega (arith, mul-zero n))
positive i n (suc m) h = omega arith

-- m from each of the list: place i is in the part of number i / m
module _ {A B : Type 0} (f : A → List B) (m : ℕ) (each : (x : A) → length (f x) ≡ m) (a : A) (d : B) where
  place_joined : (xs : List A) (i : ℕ) → i < length xs * m → get_or (concat_map f xs) i d ≡ get_or (f (get_or xs (i / m) a)) (i % m) d
  place_joined [] i h = absurd (omega (arith, zero-mul m))
  place_joined (x ∷ xs) i h = go (leb m i) refl (place_joined xs (i - m))
    where
      go : (b : Bool) → leb m i ≡ b
          → (i - m < length xs * m → get_or (concat_map f xs) (i - m) d ≡ get_or (f (get_or xs ((i - m) / m) a)) ((i - m) % m) d)
          → get_or (f x ++ concat_map f xs) i d ≡ get_or (f (get_or (x ∷ xs) (i / m) a)) (i % m) d
      go true e rest =
          let h₁ : m ≤ i = leb-true m i e in
          let all : length (x ∷ xs) * m ≡ length xs * m + m = suc-mul (length xs) m in
          let pos : 0 < m = positive i (length (x ∷ xs)) m h in
          let next : suc ((i - m) / m) ≡ i / m = sym (div-eq-sub-div pos h₁ ∙ add-one ((i - m) / m)) in
          place_after (f x) (concat_map f xs) i d (omega (arith, each x))
          ∙ ap (λ (j : ℕ). get_or (concat_map f xs) (i - j) d) (each x)
          ∙ rest (omega arith)
          ∙ λ z. get_or (f (get_or (x ∷ xs) (next z) a)) (sym (mod-eq-sub-mod h₁) z) d
      go false e rest =
          let h₁ : i < m = leb-false m i e in
          get_or-append (f x) (concat_map f xs) d i (omega (arith, each x))
          ∙ λ z. get_or (f (get_or (x ∷ xs) (sym (div-eq_of_lt h₁) z) a)) (sym (mod-eq_of_lt h₁) z) d

-- Choice j

pub choice_at_lem : (c : Condition) (j : ℕ) → j < choice_count c → get_or (choices c) j [] ≡ choice_at c j
choice_at_lem [] j h = ap (λ (i : ℕ). get_or ([] ∷ []) i []) zeroth
  where
    zeroth : j ≡ 0
    zeroth = omega arith
choice_at_lem (k ∷ c) j h =
    let m : ℕ = choice_count c in
    let l : Literal = get_or k (j / m) no_literal in
    let digit : j % m < m = mod-lt j (positive j (length k) m h) in
    let counted : length (choices c) ≡ m = choices_counted c in
    place_joined (taking c) m (λ l. length-map (choices c) (λ (ls : List Literal). l ∷ ls) ∙ counted) no_literal [] k j h
    ∙ place_within (taking c l) (j % m) [] (l ∷ []) (omega (arith, length-map (choices c) (λ (ls : List Literal). l ∷ ls)))
    ∙ get_or-map (λ (ls : List Literal). l ∷ ls) (choices c) (j % m) []
    ∙ ap (λ (ls : List Literal). l ∷ ls) (choice_at_lem c (j % m) digit)

pub choices_by_number : (c : Condition) → choices c ≡ map (choice_at c) (range 0 (choice_count c))
choices_by_number c =
    by_place (choice_at c) 0 (choices c) [] (λ i h. choice_at_lem c i (omega (arith, choices_counted c)) ∙ ap (choice_at c) (omega arith))
    ∙ ap (λ (n : ℕ). map (choice_at c) (range 0 n)) (choices_counted c)
