-- What a monitor shows broken is what the states seen miss.
use mathlib.Core.Path.{◌≡◌, refl, sym, ◌∙◌, ap}
use mathlib.Core.Bool.{Bool, true, false, not, ◌&&◌, ◌||◌}
use mathlib.Core.List.{List, [], ◌∷◌}
use lib.Dec.{T}
use Rattle.meaning.specs.Task.{Kind, always, sometime, at_end, at_most_once, sometime_before, sometime_after, within, always_within}
use Rattle.meaning.specs.Meaning.{Observation, met}
use Rattle.meaning.specs.Monitor.{Monitor, fresh, step, accepting, watch}
use Rattle.meaning.proofs.Watched.{watched}
use Rattle.losses.specs.Losses.{losable, shows}

-- a monitor shows its rule broken
abbrev pub shown_by : Kind → Monitor → Bool
shown_by k m = shows k m.S m.B

pub shows-losable : (k : Kind) (S B : Bool) → T (shows k S B) → T (losable k)
shows-losable always S B h = tt
shows-losable sometime S B h = h
shows-losable at_end S B h = h
shows-losable at_most_once S B h = tt
shows-losable sometime_before S B h = tt
shows-losable sometime_after S B h = h
shows-losable (within t) S B h = h
shows-losable (always_within t) S B h = h

-- what is shown broken is what isn't met when

lacks_twice : (b : Bool) → b ≡ not (not b)
lacks_twice true = refl
lacks_twice false = refl

once_bool : (s b : Bool) → (b && not s) ≡ not (s || not b)
once_bool true true = refl
once_bool true false = refl
once_bool false true = refl
once_bool false false = refl

pub shown_not-accepting : (k : Kind) → T (losable k) → (m : Monitor) → shown_by k m ≡ not (accepting k m)
shown_not-accepting always l m = lacks_twice m.B
shown_not-accepting sometime l m = absurd l
shown_not-accepting at_end l m = absurd l
shown_not-accepting at_most_once l m = once_bool m.S m.B
shown_not-accepting sometime_before l m = lacks_twice m.B
shown_not-accepting sometime_after l m = absurd l
shown_not-accepting (within t) l m = absurd l
shown_not-accepting (always_within t) l m = absurd l

-- the last state is like any other to these kinds
pub last_same : (k : Kind) → T (losable k) → (m : Monitor) (x : Observation) → step k true m x ≡ step k false m x
last_same always l m x = refl
last_same sometime l m x = absurd l
last_same at_end l m x = absurd l
last_same at_most_once l m x = refl
last_same sometime_before l m x = refl
last_same sometime_after l m x = absurd l
last_same (within t) l m x = absurd l
last_same (always_within t) l m x = absurd l

-- the monitor after the states xs
abbrev pub through : Kind → Monitor → List Observation → Monitor
through k m [] = m
through k m (x ∷ xs) = through k (step k false m x) xs

through_watch : (k : Kind) → T (losable k) → (m : Monitor) (x : Observation) (xs : List Observation) → through k m (x ∷ xs) ≡ watch k m x xs
through_watch k l m x [] = sym (last_same k l m x)
through_watch k l m x (y ∷ ys) = through_watch k l (step k false m x) y ys

none_missed : (k : Kind) → T (losable k) → shown_by k fresh ≡ not (met k [])
none_missed always l = refl
none_missed sometime l = absurd l
none_missed at_end l = absurd l
none_missed at_most_once l = refl
none_missed sometime_before l = refl
none_missed sometime_after l = absurd l
none_missed (within t) l = absurd l
none_missed (always_within t) l = absurd l

-- a rule is shown broken just where the states seen miss it
pub shown_missed : (k : Kind) → T (losable k) → (xs : List Observation) → shown_by k (through k fresh xs) ≡ not (met k xs)
shown_missed k l [] = none_missed k l
shown_missed k l (x ∷ xs) =
    shown_not-accepting k l (through k fresh (x ∷ xs))
    ∙ ap (λ (m : Monitor). not (accepting k m)) (through_watch k l fresh x xs)
    ∙ ap not (watched k x xs)
