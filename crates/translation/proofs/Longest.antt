-- An area of 60,008 bytes, the length of the longest task file, is never too short for a translation.
use mathlib.Core.Path.{◌≡◌, refl}
use mathlib.Core.Bool.{Bool, true, false, cond, true≢false}
use mathlib.Core.List.{List}
use Prim.Native.Nat.{ℕ, ◌+◌, ◌*◌, ◌≤◌}
use native.Mathlib.Omega.{arith}
use lib.Dec.{leb}
use borrow.Author.Tests.{leb-true}
use Rattle.task.specs.File.{task_of}
use Rattle.task.specs.Check
use Rattle.task.specs.Check.{Answer, check}
use Rattle.task.proofs.Refusals.{one_to_six_lem}
use Rattle.outcome.specs.Outcome.{refused, fitted}
use Rattle.outcome.proofs.Outcomes.{has_room}
use Rattle.classical.specs.Translation.{further, compiled_rows}
use Rattle.translation.specs.Translated.{small_enough, rows_fitted, outcome_by, outcome}

pub never_too_short : (b : List ℕ) (room : ℕ) → 60008 ≤ room → (i : ℕ) → outcome b room ≡ refused 9 i → ⊥
unfolding outcome
never_too_short b room l i e = by_answer (check b) refl e
  where
    by_rows : (x : Bool) → leb (compiled_rows b) 12000 ≡ x → cond x (fitted (8 + 5 * compiled_rows b) room) (refused 8 0) ≡ refused 9 i → ⊥
    by_rows true q e =
        let fits : 8 + 5 * compiled_rows b ≤ room = omega (arith, l, leb-true (compiled_rows b) 12000 q) in
        has_room (8 + 5 * compiled_rows b) room i fits e
    by_rows false q e = true≢false (cc)

    by_sizes : (x : Bool) → cond x (rows_fitted (compiled_rows b) room) (refused 7 0) ≡ refused 9 i → ⊥
    by_sizes true e = by_rows (leb (compiled_rows b) 12000) refl e
    by_sizes false e = true≢false (cc)

    by_answer : (a : Answer) → check b ≡ a → outcome_by b room a ≡ refused 9 i → ⊥
    by_answer (Check.refused n j) h e = let nine : n ≡ 9 = cc in omega (arith, (one_to_six_lem b n j h).1)
    by_answer (Check.accepted z) h e = by_sizes (small_enough z (further (task_of b).preferences)) e
