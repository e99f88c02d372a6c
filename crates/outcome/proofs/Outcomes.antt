-- What an outcome says of the room, and what it leaves in the area.
use mathlib.Core.Path.{◌≡◌, refl, sym, ap, ◌∙◌}
use mathlib.Core.Bool.{Bool, true, false, cond, true≢false}
use mathlib.Core.List.{List, ◌++◌}
use Prim.Native.Nat.{ℕ, ◌≤◌}
use lib.ListN.{length, drop}
use lib.Dec.{leb}
use borrow.Author.Tests.{le-leb, leb-true}
use Rattle.std.specs.Prelude.{Result, Ok}
use Rattle.task.specs.Refused.{SHORT_OUTPUT}
use Rattle.task.specs.declared.Refusal.{Refusal}
use Rattle.outcome.specs.Answers.{answer}
use Rattle.outcome.specs.Outcome.{Outcome, written, refused, fitted, area_after}

-- what has room is not refused by 9
pub has_room : (bytes room i : ℕ) → bytes ≤ room → fitted bytes room ≡ refused SHORT_OUTPUT i → ⊥
has_room bytes room i h e = true≢false (cc (le-leb bytes room h))

-- The answer a of a call, and the area then, where o is due

pub turned_down : (bytes area : List ℕ) (o a : Outcome) (n i : ℕ) → a ≡ refused n i → o ≡ refused n i → (a ≡ o) × (area ≡ area_after bytes area o)
turned_down bytes area o a n i x y = (x ∙ sym y, sym (ap (area_after bytes area) y))

pub put_down : (bytes area out : List ℕ) (n : ℕ) (o : Outcome) → length bytes ≡ n → out ≡ bytes ++ drop (length bytes) area → o ≡ written n
    → (written n ≡ o) × (out ≡ area_after bytes area o)
put_down bytes area out n o e w y = (sym y, w ∙ ap (λ (k : ℕ). bytes ++ drop k area) e ∙ sym (ap (area_after bytes area) y))

-- The answer of `fitted`, which a caller takes apart

module _ (bytes room : ℕ) {x : Result ℕ Refusal} (e : answer x ≡ fitted bytes room) where
  pub room_found : {n : ℕ} → x ≡ Ok n → (n ≡ bytes) × (bytes ≤ room)
  room_found {n} q = go (leb bytes room) refl (sym (ap answer q) ∙ e)
    where
      go : (b : Bool) → leb bytes room ≡ b → written n ≡ cond b (written bytes) (refused SHORT_OUTPUT 0) → (n ≡ bytes) × (bytes ≤ room)
      go true h w = (cc, leb-true bytes room h)
      go false h w = absurd (true≢false (cc))
