-- Where preferences begin, noted one after the other.
use mathlib.Core.Path.{◌≡◌, sym, ap, ◌∙◌}
use mathlib.Core.List.{List, [], ◌∷◌, ◌++◌, append_assoc, append-nil}
use Prim.Native.Nat.{ℕ, suc, ◌+◌, ◌-◌, ◌≤◌, ◌<◌}
use native.Mathlib.Numerals.{add-one}
use native.Mathlib.Omega.{arith}
use lib.ListN.{length, take, drop, set, length-drop}
use lib.Seq.{take-suc-set}
use borrow.Author.Tests.{lt-leb}
use Rattle.lists.specs.Lists.{concat_map}
use Rattle.meaning.specs.Task.{Preference}
use Rattle.task.specs.TaskRows.{preference_rows}
use Rattle.task.specs.File.{paired}
use Rattle.task.proofs.Bytes.{length-paired}
use Rattle.layout.specs.Sides.{after_preference, starts_from, Located, sides_at}
use Rattle.layout.proofs.Ends.{located}

-- The loop

-- what holds before preference c is noted, of so many; it begins at row j
pub record Noting (ms : List ℕ) (at many : ℕ) (starts : List ℕ) (c j : ℕ) : Type 0 where
  pub few : c ≤ many
  pub so_far : take c starts ++ starts_from ms j (many - c) ≡ starts_from ms at many

pub none_noted : (ms : List ℕ) (at many : ℕ) (starts : List ℕ) → Noting ms at many starts 0 at
none_noted ms at many starts = let e : many - 0 ≡ many = omega arith in record { few = omega arith; so_far = ap (starts_from ms at) e }

module _ (ms : List ℕ) (at many : ℕ) (starts : List ℕ) (c j : ℕ) (noted : Noting ms at many starts c j) where
  pub noted_on : c < many → c < length starts → (r : ℕ) → r ≡ after_preference ms j → Noting ms at many (set starts c j) (c + 1) r
  noted_on h l r e =
      let left : many - c ≡ suc (many - (c + 1)) = omega arith in
      let more : List ℕ = starts_from ms (after_preference ms j) (many - (c + 1)) in
      record {
        few = omega arith;
        so_far = (λ z. ap (λ (k : ℕ). take k (set starts c j)) (add-one c) z ++ starts_from ms (e z) (many - (c + 1)))
            ∙ ap (λ (k : List ℕ). k ++ more) (take-suc-set starts c j l)
            ∙ append_assoc (take c starts) (j ∷ []) more
            ∙ ap (λ (n : ℕ). take c starts ++ starts_from ms j n) (sym left)
            ∙ noted.so_far;
      }

  pub noted_all : many ≤ c → take many starts ≡ starts_from ms at many
  noted_all h =
      let all : many ≡ c = omega (arith, noted.few) in
      let none : many - c ≡ 0 = omega arith in
      ap (λ (k : ℕ). take k starts) all ∙ sym (append-nil (take c starts)) ∙ ap (λ (n : ℕ). take c starts ++ starts_from ms j n) (sym none) ∙ noted.so_far

-- Spelled preferences

module _ (ms vs : List ℕ) (at : ℕ) (q : Preference) (qs : List Preference) (e : drop at (paired ms vs) ≡ concat_map preference_rows (q ∷ qs)) where
  pub within_rows_lem : at < length ms
  within_rows_lem = omega (arith, ap length e, length-drop at (paired ms vs), length-paired ms vs)

  pub at_sides : Located ms vs at q qs (sides_at ms at)
  at_sides = located ms vs at q qs e within_rows_lem

  pub after_is : drop (after_preference ms at) (paired ms vs) ≡ concat_map preference_rows qs
  after_is = rw (lt-leb (length ms) at within_rows_lem) at_sides.rest
