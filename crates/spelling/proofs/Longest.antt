-- An area as long as the file is never too short for its spelling, so 60,008 bytes, the length of the longest task file, always are enough.
use mathlib.Core.Path.{◌≡◌, refl}
use mathlib.Core.List.{List}
use Prim.Native.Nat.{ℕ, ◌+◌, ◌*◌, ◌≤◌}
use native.Mathlib.Omega.{arith}
use lib.ListN.{length}
use Rattle.task.specs.Check
use Rattle.task.specs.Check.{Answer, check}
use Rattle.task.proofs.Answered.{limited}
use Rattle.task.proofs.Refusals.{one_to_six_lem}
use Rattle.outcome.specs.Outcome.{refused}
use Rattle.outcome.proofs.Outcomes.{has_room}
use Rattle.canonical.specs.Canonical.{respelled_rows}
use Rattle.canonical.proofs.Respelled.{respelled_file}
use Rattle.spelling.specs.Outcome.{outcome_by, outcome}

module _ (b : List ℕ) (room i : ℕ) where
  never_short : (a : Answer) → check b ≡ a → ((z : _) → a ≡ Check.accepted z → length b ≤ room) → outcome_by b room a ≡ refused 9 i → ⊥
  never_short (Check.refused n j) h l e = let nine : n ≡ 9 = cc in omega (arith, (one_to_six_lem b n j h).1)
  never_short (Check.accepted z) h l e =
      let fits : 8 + 5 * respelled_rows b ≤ room = omega (arith, l z refl, (limited b z h).exact, (respelled_file b z h).fewer) in
      has_room (8 + 5 * respelled_rows b) room i fits e

  pub as_long : length b ≤ room → outcome b room ≡ refused 9 i → ⊥
  unfolding outcome
  as_long l = never_short (check b) refl (λ z q. l)

  pub never_too_short : 60008 ≤ room → outcome b room ≡ refused 9 i → ⊥
  unfolding outcome
  never_too_short l = never_short (check b) refl (λ z q. omega (arith, (limited b z q).exact, (limited b z q).few_rows))
