-- A monitor that has watched all states accepts exactly where the preference is met.
use mathlib.Core.Path.{◌≡◌, refl, sym, ◌∙◌, ap}
use mathlib.Core.Bool.{Bool, true, false, not, ◌&&◌, ◌||◌, or-false, or_comm, and-true}
use mathlib.Core.List.{List, [], ◌∷◌, map}
use Prim.Native.Nat.{ℕ}
use Rattle.lists.specs.Lists.{all, any}
use Rattle.meaning.specs.Task.{Task, Preference}
use Rattle.meaning.specs.Task.{Kind, always, sometime, at_end, at_most_once, sometime_before, sometime_after, within, always_within}
use Rattle.meaning.specs.Meaning.{State, opening, reached, Observation, not_φ, first_run, is_φ, is_ψ, one_run, precedes, follows, last_φ, met, seen, is_met}
use Rattle.meaning.specs.Monitor.{Monitor, fresh, step, accepting, watch}
use Rattle.meaning.proofs.Deadlines.{within_law, always_within_law}

always_bool : (φ b r : Bool) → (not (not φ || b) && r) ≡ (not b && (φ && r))
always_bool true true r = refl
always_bool true false r = refl
always_bool false true r = refl
always_bool false false r = refl

always_law : (m : Monitor) (x : Observation) (xs : List Observation) → accepting always (watch always m x xs) ≡ (not m.B && all is_φ (x ∷ xs))
always_law m x [] = sym (and-true (not (not x.φ || m.B))) ∙ always_bool x.φ m.B true
always_law m x (y ∷ ys) = always_law (step always false m x) y ys ∙ always_bool x.φ m.B (all is_φ (y ∷ ys))

sometime_bool : (φ s r : Bool) → (φ || s || r) ≡ (s || (φ || r))
sometime_bool true true r = refl
sometime_bool true false r = refl
sometime_bool false s r = refl

sometime_law : (m : Monitor) (x : Observation) (xs : List Observation) → accepting sometime (watch sometime m x xs) ≡ (m.S || any is_φ (x ∷ xs))
sometime_law m x [] = sym (or-false (x.φ || m.S)) ∙ sometime_bool x.φ m.S false
sometime_law m x (y ∷ ys) = sometime_law (step sometime false m x) y ys ∙ sometime_bool x.φ m.S (any is_φ (y ∷ ys))

at_end_law : (d : Bool) (m : Monitor) (x : Observation) (xs : List Observation) → accepting at_end (watch at_end m x xs) ≡ (last_φ d (x ∷ xs) || m.S)
at_end_law d m x [] = refl
at_end_law d m x (y ∷ ys) = at_end_law x.φ m y ys

-- what is still asked of the states to come, by S and B
abbrev run_so_far : Bool → Bool → List Observation → Bool
run_so_far false false xs = one_run xs
run_so_far true false xs = first_run xs
run_so_far true true xs = all not_φ xs
run_so_far false true xs = false

at_most_once_law : (n : ℕ) (s b φ ψ : Bool) (xs : List Observation)
    → accepting at_most_once (watch at_most_once (record { S = s; B = b; age = n }) (record { φ = φ; ψ = ψ }) xs)
    ≡ run_so_far s b (record { φ = φ; ψ = ψ } ∷ xs)
at_most_once_law n true true true ψ [] = refl
at_most_once_law n true true false ψ [] = refl
at_most_once_law n true false true ψ [] = refl
at_most_once_law n true false false ψ [] = refl
at_most_once_law n false true true ψ [] = refl
at_most_once_law n false true false ψ [] = refl
at_most_once_law n false false true ψ [] = refl
at_most_once_law n false false false ψ [] = refl
at_most_once_law n true true true ψ (y ∷ ys) = at_most_once_law n false true y.φ y.ψ ys
at_most_once_law n true true false ψ (y ∷ ys) = at_most_once_law n true true y.φ y.ψ ys
at_most_once_law n true false true ψ (y ∷ ys) = at_most_once_law n true false y.φ y.ψ ys
at_most_once_law n true false false ψ (y ∷ ys) = at_most_once_law n true true y.φ y.ψ ys
at_most_once_law n false true true ψ (y ∷ ys) = at_most_once_law n false true y.φ y.ψ ys
at_most_once_law n false true false ψ (y ∷ ys) = at_most_once_law n false true y.φ y.ψ ys
at_most_once_law n false false true ψ (y ∷ ys) = at_most_once_law n true false y.φ y.ψ ys
at_most_once_law n false false false ψ (y ∷ ys) = at_most_once_law n false false y.φ y.ψ ys

before_bool : (φ s b r : Bool) → (r && not (not s && φ || b)) ≡ ((not φ || s) && r && not b)
before_bool true true b r = refl
before_bool true false b true = refl
before_bool true false b false = refl
before_bool false true b r = refl
before_bool false false b r = refl

sometime_before_law : (m : Monitor) (x : Observation) (xs : List Observation)
    → accepting sometime_before (watch sometime_before m x xs) ≡ (precedes m.S (x ∷ xs) && not m.B)
sometime_before_law m x [] = before_bool x.φ m.S m.B true
sometime_before_law m x (y ∷ ys) =
    sometime_before_law (step sometime_before false m x) y ys
    ∙ before_bool x.φ m.S m.B (precedes (x.ψ || m.S) (y ∷ ys))
    ∙ ap (λ (b : Bool). (not x.φ || m.S) && precedes b (y ∷ ys) && not m.B) (or_comm x.ψ m.S)

after_bool : (φ ψ b q r : Bool) → (r && (not (φ && not ψ || b && not ψ) || q)) ≡ ((not φ || (ψ || q)) && r && (not b || (ψ || q)))
after_bool true true true q r = refl
after_bool true true false q r = refl
after_bool true false true true r = refl
after_bool true false false true r = refl
after_bool true false b false true = refl
after_bool true false b false false = refl
after_bool false true true q r = refl
after_bool false true false q r = refl
after_bool false false true q r = refl
after_bool false false false q r = refl

sometime_after_law : (m : Monitor) (x : Observation) (xs : List Observation)
    → accepting sometime_after (watch sometime_after m x xs) ≡ (follows (x ∷ xs) && (not m.B || any is_ψ (x ∷ xs)))
sometime_after_law m x [] = sym (or-false (not (x.φ && not x.ψ || m.B && not x.ψ))) ∙ after_bool x.φ x.ψ m.B false true
sometime_after_law m x (y ∷ ys) =
    sometime_after_law (step sometime_after false m x) y ys
    ∙ after_bool x.φ x.ψ m.B (any is_ψ (y ∷ ys)) (follows (y ∷ ys))

-- a monitor that has watched all states accepts just where the preference is met
pub watched : (k : Kind) (x : Observation) (xs : List Observation) → accepting k (watch k fresh x xs) ≡ met k (x ∷ xs)
watched always x xs = always_law fresh x xs
watched sometime x xs = sometime_law fresh x xs
watched at_end x xs = at_end_law false fresh x xs ∙ or-false (last_φ false (x ∷ xs))
watched at_most_once x xs = at_most_once_law 0 false false x.φ x.ψ xs
watched sometime_before x xs = sometime_before_law fresh x xs ∙ and-true (precedes false (x ∷ xs))
watched sometime_after x xs = sometime_after_law fresh x xs ∙ and-true (follows (x ∷ xs))
watched (within t) x xs = within_law t x xs
watched (always_within t) x xs = always_within_law t x xs

-- Monitors of all preferences

-- after one more state
abbrev pub step_all : Bool → (Preference → Monitor) → State → Preference → Monitor
step_all last m σ q = step q.kind last (m q) (seen q σ)

-- once all states from σ on, along p, are seen
abbrev pub watch_all : Task → (Preference → Monitor) → State → List ℕ → Preference → Monitor
watch_all t m σ p q = watch q.kind (m q) (seen q σ) (map (seen q) (reached t σ p))

-- those that have watched a whole plan accept just where it meets their preference
pub accepting_watched : (t : Task) (p : List ℕ) (q : Preference)
    → accepting q.kind (watch_all t (λ (q : Preference). fresh) (opening t) p q) ≡ is_met t p q
accepting_watched t p q = watched q.kind (seen q (opening t)) (map (seen q) (reached t (opening t) p))
