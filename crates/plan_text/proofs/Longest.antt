-- No text of a plan is longer than 65,536 bytes.
use mathlib.Core.Path.{◌≡◌, refl}
use mathlib.Core.Bool.{Bool, true, false, cond, true≢false}
use mathlib.Core.List.{List}
use Prim.Native.Nat.{ℕ, ◌≤◌}
use native.Mathlib.Omega.{arith}
use lib.Dec.{leb}
use lib.ListN.{length}
use borrow.Author.Tests.{leb-true}
use Rattle.lists.proofs.Tests.{as_t}
use Rattle.outcome.specs.Outcome.{refused, fitted}
use Rattle.outcome.proofs.Outcomes.{has_room}
use Rattle.plan_lines.specs.PlanText.{text_of}
use Rattle.plan_text.specs.Outcomes.{write_outcome}
use Rattle.plan_lines.proofs.Returned.{bytes, text_length}

module _ (p : List ℕ) (h : bytes p ≡ true) where
  pub longest : length p ≤ 2048 → length (text_of p) ≤ 65536
  longest few = omega (arith, text_length p (as_t h))

  -- so an area of that length is never refused by 9
  pub never_too_short : (room : ℕ) → 65536 ≤ room → (i : ℕ) → write_outcome p room ≡ refused 9 i → ⊥
  unfolding write_outcome
  never_too_short room l i e = by_steps (leb (length p) 2048) refl e
    where
      by_steps : (x : Bool) → leb (length p) 2048 ≡ x → cond x (fitted (length (text_of p)) room) (refused 10 0) ≡ refused 9 i → ⊥
      by_steps true q e =
          let few : length p ≤ 2048 = leb-true (length p) 2048 q in
          let fits : length (text_of p) ≤ room = omega (arith, l, longest few) in
          has_room (length (text_of p)) room i fits e
      by_steps false q e = true≢false (cc)
