-- What the facts S, B and D1, D2, … of a preference know of the states seen so far.
use Rattle.std.specs.Prelude.{Bool, true, false, not, cond, ◌&&◌, ◌||◌, List, [], ◌∷◌, ℕ, ◌+◌, leb, eqb}
use Rattle.meaning.specs.Task.{Kind, always, sometime, at_end, at_most_once, sometime_before, sometime_after, within, always_within}
use Rattle.meaning.specs.Meaning.{Observation}

-- D of j holds where j is at most the age
pub record Monitor : Type 0 where
  pub S : Bool
  pub B : Bool
  pub age : ℕ

abbrev pub fresh : Monitor
fresh = record { S = false; B = false; age = 0 }

-- one more, up to t + 1
abbrev pub older : ℕ → ℕ → ℕ
older t n = cond (leb n t) (n + 1) n

-- S, B and the age after a state with φ and ψ, from S, B and the age n before; last says that it is the last state
abbrev pub next_s : Kind → Bool → Bool → Bool → ℕ → Bool → Bool → Bool
next_s always last s b n φ ψ = s
next_s sometime last s b n φ ψ = φ || s
next_s at_end last s b n φ ψ = last && φ || s
next_s at_most_once last s b n φ ψ = not s && (not b && φ) || s && not (s && (b && φ))
next_s sometime_before last s b n φ ψ = ψ || s
next_s sometime_after last s b n φ ψ = s
next_s (within t) last s b n φ ψ = leb n t && φ || s
next_s (always_within t) last s b n φ ψ = cond (eqb t 0) φ (leb t n) && not ψ || s

abbrev pub next_b : Kind → Bool → Bool → Bool → ℕ → Bool → Bool → Bool
next_b always last s b n φ ψ = not φ || b
next_b sometime last s b n φ ψ = b
next_b at_end last s b n φ ψ = b
next_b at_most_once last s b n φ ψ = s && not φ || b
next_b sometime_before last s b n φ ψ = not s && φ || b
next_b sometime_after last s b n φ ψ = φ && not ψ || b && not ψ
next_b (within t) last s b n φ ψ = b
next_b (always_within t) last s b n φ ψ = φ && not ψ || b && not (not s && ψ)

abbrev pub next_age : Kind → Bool → ℕ → Bool → Bool → ℕ
next_age always s n φ ψ = n
next_age sometime s n φ ψ = n
next_age at_end s n φ ψ = n
next_age at_most_once s n φ ψ = n
next_age sometime_before s n φ ψ = n
next_age sometime_after s n φ ψ = n
next_age (within t) s n φ ψ = older t n
next_age (always_within t) s n φ ψ = cond ψ (cond s n 0) (cond (φ || leb 1 n) (older t n) 0)

abbrev pub step : Kind → Bool → Monitor → Observation → Monitor
step k last m x =
    record {
      S = next_s k last m.S m.B m.age x.φ x.ψ;
      B = next_b k last m.S m.B m.age x.φ x.ψ;
      age = next_age k m.S m.age x.φ x.ψ;
    }

-- the 'met when' of a kind
abbrev pub accepting : Kind → Monitor → Bool
accepting always m = not m.B
accepting sometime m = m.S
accepting at_end m = m.S
accepting at_most_once m = m.S || not m.B
accepting sometime_before m = not m.B
accepting sometime_after m = not m.B
accepting (within t) m = m.S
accepting (always_within t) m = not m.B

-- the monitor after the states x ∷ xs, the last of them marked as last
abbrev pub watch : Kind → Monitor → Observation → List Observation → Monitor
watch k m x [] = step k true m x
watch k m x (y ∷ ys) = watch k (step k false m x) y ys
