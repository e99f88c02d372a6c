-- The monitors of within and always-within accept exactly where the preference is met.
use mathlib.Core.Path.{◌≡◌, refl, sym, ◌∙◌, ap, ap₂}
use mathlib.Core.Bool.{Bool, true, false, not, cond, ◌&&◌, ◌||◌, or-false, or-true, and-false}
use mathlib.Core.List.{List, [], ◌∷◌}
use Prim.Native.Nat.{ℕ, zero, suc, ◌+◌, ◌≤◌, ◌<◌}
use native.Mathlib.Nat.{le_of_suc-le-suc, not-suc-le-zero}
use native.Mathlib.Numerals.{add-one}
use native.Mathlib.Omega.{arith}
use lib.Dec.{leb, eqb}
use lib.ListN.{take}
use borrow.Author.Tests.{le-leb, lt-leb, ne_eqb}
use Rattle.lists.specs.Lists.{any}
use Rattle.meaning.specs.Task.{within, always_within}
use Rattle.meaning.specs.Meaning.{Observation, is_φ, is_ψ, in_time, follows_in}
use Rattle.meaning.specs.Monitor.{Monitor, fresh, older, next_s, next_b, next_age, step, accepting, watch}

-- Some among the first states

module _ {A : Type 0} (p : A → Bool) where
  none-taken : (n : ℕ) → any p (take n []) ≡ false
  none-taken zero = refl
  none-taken (suc n) = refl

  -- where some of the first m pass, so do some of the first n
  more_taken : (m n : ℕ) (f : Bool) (xs : List A) → m ≤ n → (any p (take m xs) && (any p (take n xs) && f)) ≡ (any p (take m xs) && f)
  more_taken zero n f xs h = refl
  more_taken (suc m) zero f xs h = absurd (not-suc-le-zero h)
  more_taken (suc m) (suc n) f [] h = refl
  more_taken (suc m) (suc n) f (x ∷ xs) h = go (p x) (more_taken m n f xs (le_of_suc-le-suc h))
    where
      go : (b : Bool) → (any p (take m xs) && (any p (take n xs) && f)) ≡ (any p (take m xs) && f)
          → ((b || any p (take m xs)) && ((b || any p (take n xs)) && f)) ≡ ((b || any p (take m xs)) && f)
      go true e = refl
      go false e = e

-- within

-- S after the states xs, from S and the age n before them
abbrev reached : ℕ → Bool → ℕ → List Observation → Bool
reached t s n [] = s
reached t s n (x ∷ xs) = reached t (leb n t && x.φ || s) (older t n) xs

reached_is : (t : ℕ) (m : Monitor) (x : Observation) (xs : List Observation) → accepting (within t) (watch (within t) m x xs) ≡ reached t m.S m.age (x ∷ xs)
reached_is t m x [] = refl
reached_is t m x (y ∷ ys) = reached_is t (step (within t) false m x) y ys

-- time is over
over : (t : ℕ) (s : Bool) (xs : List Observation) → reached t s (suc t) xs ≡ s
over t s [] = refl
over t s (x ∷ xs) =
    ap (λ (c : Bool). reached t (c && x.φ || s) (cond c (suc t + 1) (suc t)) xs) (lt-leb (suc t) t (omega arith)) ∙ over t s xs

-- r states are left
left : (t n r : ℕ) (s : Bool) (xs : List Observation) → n + r ≡ suc t → reached t s n xs ≡ (s || any is_φ (take r xs))
left t n r s [] e = sym (ap (λ (b : Bool). s || b) (none-taken is_φ r) ∙ or-false s)
left t n zero s (x ∷ xs) e =
    let late : n ≡ suc t = omega arith in
    ap (λ (k : ℕ). reached t s k (x ∷ xs)) late ∙ over t s (x ∷ xs) ∙ sym (or-false s)
left t n (suc r) s (x ∷ xs) e =
    ap (λ (c : Bool). reached t (c && x.φ || s) (cond c (n + 1) n) xs) (le-leb n t (omega arith))
    ∙ left t (n + 1) r (x.φ || s) xs (omega arith)
    ∙ go x.φ s (any is_φ (take r xs))
  where
    go : (φ s r : Bool) → (φ || s || r) ≡ (s || (φ || r))
    go true true r = refl
    go true false r = refl
    go false s r = refl

pub within_law : (t : ℕ) (x : Observation) (xs : List Observation) → accepting (within t) (watch (within t) fresh x xs) ≡ in_time t (x ∷ xs)
within_law t x xs = reached_is t fresh x xs ∙ left t 0 (suc t) false (x ∷ xs) (omega arith)

-- always-within

-- lacks B after the states xs, from S, B and the age n before them
abbrev answered : ℕ → Bool → Bool → ℕ → List Observation → Bool
answered t s b n [] = not b
answered t s b n (x ∷ xs) =
    answered t (next_s (always_within t) false s b n x.φ x.ψ) (next_b (always_within t) false s b n x.φ x.ψ)
    (next_age (always_within t) s n x.φ x.ψ) xs

answered_is : (t : ℕ) (m : Monitor) (x : Observation) (xs : List Observation)
    → accepting (always_within t) (watch (always_within t) m x xs) ≡ answered t m.S m.B m.age (x ∷ xs)
answered_is t m x [] = refl
answered_is t m x (y ∷ ys) = answered_is t (step (always_within t) false m x) y ys

-- a state with φ has waited too long
broken : (t n : ℕ) (xs : List Observation) → answered t true true n xs ≡ false
broken t n [] = refl
broken t n (x ∷ xs) =
    let next : ℕ = next_age (always_within t) true n x.φ x.ψ in
    ap₂ (λ (s b : Bool). answered t s b next xs) (or-true (cond (eqb t 0) x.φ (leb t n) && not x.ψ)) (or-true (x.φ && not x.ψ))
    ∙ broken t next xs

-- what is left to show where no state waits, and where one has waited for a states and has time for r more
abbrev Idle : ℕ → List Observation → Type 0
Idle t xs = answered t false false 0 xs ≡ follows_in t xs

abbrev Waiting : ℕ → List Observation → Type 0
Waiting t xs = (a r : ℕ) → suc a + r ≡ t → answered t false true (suc a) xs ≡ (any is_ψ (take (suc r) xs) && follows_in t xs)

-- S by whether time is up
abbrev is_due : ℕ → Bool → ℕ → Bool
is_due t φ n = cond (eqb t 0) φ (leb t n)

not_due : (t n : ℕ) (φ : Bool) → n < t → is_due t φ n ≡ false
not_due t n φ h = ap₂ (λ (z l : Bool). cond z φ l) (ne_eqb t 0 (λ e. omega arith)) (lt-leb t n h)

module _ (xs : List Observation) where
  -- ψ ends all waiting
  ended : (t n : ℕ) (φ b : Bool) → Idle t xs → answered t (is_due t φ n && false || false) (φ && false || b && false) 0 xs ≡ ((not φ || true) && follows_in t xs)
  ended t n φ b i =
      ap₂ (λ (s b : Bool). answered t s b 0 xs) (or-false (is_due t φ n && false) ∙ and-false (is_due t φ n))
      (ap₂ ◌||◌ (and-false φ) (and-false b))
      ∙ i
      ∙ sym (ap (λ (c : Bool). c && follows_in t xs) (or-true (not φ)))

  idle_step : (t : ℕ) (φ ψ : Bool) → Idle t xs → Waiting t xs → Idle t (record { φ = φ; ψ = ψ } ∷ xs)
  idle_step t φ true i w = ended t 0 φ false i
  idle_step zero false false i w = i
  idle_step (suc t) false false i w =
      ap (λ (c : Bool). answered (suc t) (c && true || false) false 0 xs) (not_due (suc t) 0 false (omega arith)) ∙ i
  idle_step zero true false i w = broken 0 (older 0 0) xs
  idle_step (suc t) true false i w =
      ap₂ (λ (c d : Bool). answered (suc t) (c && true || false) true (cond d (0 + 1) 0) xs) (not_due (suc t) 0 true (omega arith))
      (le-leb 0 (suc t) (omega arith))
      ∙ w 0 t (omega arith)

  waiting_step : (t : ℕ) (φ ψ : Bool) → Idle t xs → Waiting t xs → Waiting t (record { φ = φ; ψ = ψ } ∷ xs)
  waiting_step t φ true i w a r e = ended t (suc a) φ true i
  waiting_step t φ false i w a zero e =
      let due : is_due t φ (suc a) ≡ true = ap₂ (λ (z l : Bool). cond z φ l) (ne_eqb t 0 (λ p. omega arith)) (le-leb t (suc a) (omega arith)) in
      let next : ℕ = next_age (always_within t) false (suc a) φ false in
      ap₂ (λ (c b : Bool). answered t (c && true || false) b next xs) due (or-true (φ && true)) ∙ broken t next xs
  waiting_step t φ false i w a (suc r) e =
      let open_still : (φ || leb 1 (suc a)) ≡ true = ap (λ (b : Bool). φ || b) (le-leb 1 (suc a) (omega arith)) ∙ or-true φ in
      let older_by_one : next_age (always_within t) false (suc a) φ false ≡ suc (suc a) =
      ap₂ (λ (c d : Bool). cond c (cond d (suc a + 1) (suc a)) 0) open_still (le-leb (suc a) t (omega arith)) ∙ add-one (suc a) in
      (λ z. answered t (not_due t (suc a) φ (omega arith) z && true || false) (or-true (φ && true) z) (older_by_one z) xs)
      ∙ w (suc a) r (omega arith)
      ∙ go φ
    where
      go : (φ : Bool) → (any is_ψ (take (suc r) xs) && follows_in t xs)
          ≡ (any is_ψ (take (suc r) xs) && ((not φ || any is_ψ (take t xs)) && follows_in t xs))
      go true = sym (more_taken is_ψ (suc r) t (follows_in t xs) xs (omega arith))
      go false = refl

all_waits : (t : ℕ) (xs : List Observation) → Idle t xs × Waiting t xs
all_waits t [] = (refl, λ a r e. refl)
all_waits t (x ∷ xs) =
    let (i, w) = all_waits t xs in
    (idle_step xs t x.φ x.ψ i w, waiting_step xs t x.φ x.ψ i w)

pub always_within_law : (t : ℕ) (x : Observation) (xs : List Observation) → accepting (always_within t) (watch (always_within t) fresh x xs) ≡ follows_in t (x ∷ xs)
always_within_law t x xs = answered_is t fresh x xs ∙ (all_waits t (x ∷ xs)).0
