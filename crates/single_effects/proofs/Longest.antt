-- An area of 60,008 bytes, the length of the longest task file, is never too short.
use mathlib.Core.Path.{◌≡◌, refl}
use mathlib.Core.Bool.{Bool, true, false, cond, true≢false}
use mathlib.Core.List.{List}
use mathlib.Core.Option.{Option, none, some}
use Prim.Native.Nat.{ℕ, ◌+◌, ◌*◌, ◌≤◌}
use native.Mathlib.Omega.{arith}
use lib.Dec.{leb}
use borrow.Author.Tests.{leb-true}
use Rattle.task.specs.File.{rows}
use Rattle.task.specs.Check
use Rattle.task.specs.Check.{Answer, check}
use Rattle.task.proofs.Refusals.{one_to_six_lem}
use Rattle.outcome.specs.Outcome.{refused, fitted}
use Rattle.outcome.proofs.Outcomes.{has_room}
use Rattle.singling.specs.Singled.{singled_rows}
use Rattle.singling.specs.Wide.{first_wide}
use Rattle.singling.specs.Outcome.{rows_fitted, outcome_by, outcome}

pub never_too_short : (b : List ℕ) (room : ℕ) → 60008 ≤ room → (i : ℕ) → outcome b room ≡ refused 9 i → ⊥
unfolding outcome
never_too_short b room l i e = by_answer (check b) refl e
  where
    by_rows : (x : Bool) → leb (singled_rows b) 12000 ≡ x → cond x (fitted (8 + 5 * singled_rows b) room) (refused 8 0) ≡ refused 9 i → ⊥
    by_rows true q e =
        let fits : 8 + 5 * singled_rows b ≤ room = omega (arith, l, leb-true (singled_rows b) 12000 q) in
        has_room (8 + 5 * singled_rows b) room i fits e
    by_rows false q e = true≢false (cc)

    by_wide : (o : Option ℕ) → rows_fitted (singled_rows b) room o ≡ refused 9 i → ⊥
    by_wide (some j) e = true≢false (cc)
    by_wide none e = by_rows (leb (singled_rows b) 12000) refl e

    by_answer : (a : Answer) → check b ≡ a → outcome_by b room a ≡ refused 9 i → ⊥
    by_answer (Check.refused n j) h e = let nine : n ≡ 9 = cc in omega (arith, (one_to_six_lem b n j h).1)
    by_answer (Check.accepted z) h e = by_wide (first_wide 0 (rows b)) e
