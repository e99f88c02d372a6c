-- What a monitor shows broken stays so, and is missed in whatever states come after.
use mathlib.Core.Path.{◌≡◌, refl, sym, ◌∙◌, ap, subst}
use mathlib.Core.Bool.{Bool, true, false, not, ◌&&◌, ◌||◌}
use mathlib.Core.List.{List, [], ◌∷◌, ◌++◌}
use lib.Dec.{T}
use Rattle.meaning.specs.Task.{Kind, always, sometime, at_end, at_most_once, sometime_before, sometime_after, within, always_within}
use Rattle.meaning.specs.Meaning.{Observation, met}
use Rattle.meaning.specs.Monitor.{Monitor, fresh, step}
use Rattle.lists.proofs.Tests.{as_false, as_t, or_right}
use Rattle.losses.specs.Losses.{losable}
use Rattle.losses.proofs.Shown.{shown_by, through, shown_missed}

once_stays : (s b φ : Bool) → T (b && not s)
    → T ((s && not φ || b) && not (not s && (not b && φ) || s && not (s && (b && φ))))
once_stays true true φ h = absurd h
once_stays true false φ h = absurd h
once_stays false true φ h = tt
once_stays false false φ h = absurd h

pub shown_stays : (k : Kind) (last : Bool) (m : Monitor) (x : Observation) → T (shown_by k m) → T (shown_by k (step k last m x))
shown_stays always last m x h = or_right (not x.φ) m.B h
shown_stays sometime last m x h = h
shown_stays at_end last m x h = h
shown_stays at_most_once last m x h = once_stays m.S m.B x.φ h
shown_stays sometime_before last m x h = or_right (not m.S && x.φ) m.B h
shown_stays sometime_after last m x h = h
shown_stays (within t) last m x h = h
shown_stays (always_within t) last m x h = h

-- so it is missed in whatever states come after

through_append : (k : Kind) (m : Monitor) (xs ys : List Observation) → through k m (xs ++ ys) ≡ through k (through k m xs) ys
through_append k m [] ys = refl
through_append k m (x ∷ xs) ys = through_append k (step k false m x) xs ys

shown_through : (k : Kind) (m : Monitor) (xs : List Observation) → T (shown_by k m) → T (shown_by k (through k m xs))
shown_through k m [] h = h
shown_through k m (x ∷ xs) h = shown_through k (step k false m x) xs (shown_stays k false m x h)

pub missed_on : (k : Kind) → T (losable k) → (xs ys : List Observation) → met k xs ≡ false → met k (xs ++ ys) ≡ false
missed_on k l xs ys e =
    let h : T (shown_by k (through k fresh xs)) = as_t (shown_missed k l xs ∙ ap not e) in
    as_false (met k (xs ++ ys))
    (subst T (ap (shown_by k) (sym (through_append k fresh xs ys)) ∙ shown_missed k l (xs ++ ys)) (shown_through k (through k fresh xs) ys h))
