-- A wrong order of refusals: a list that is too long is refused by 10 before the task is by 1 to 8.
use mathlib.Core.Path.{◌≡◌, refl}
use mathlib.Core.Bool.{cond}
use mathlib.Core.List.{List, []}
use Prim.Native.Nat.{ℕ, ◌<◌}
use lib.Dec.{leb}
use lib.ListN.{length}
use borrow.Author.Tests.{lt-leb}
use Rattle.task.specs.Limits.{MAX_STEPS}
use Rattle.task.specs.Refused.{LONG_PLAN}
use Rattle.task.specs.Check.{check}
use Rattle.translation.specs.Translated.{outcome}
use Rattle.translation.specs.Measured
use Rattle.translation.specs.Measured.{measured}
use Rattle.translation.proofs.Measuring.{refused_alike}
use Rattle.outcome.specs.Outcome
use Rattle.lost.specs.Answered.{Answered, refused, answered}

abbrev ten_first : List ℕ → List ℕ → Answered
ten_first b p = cond (leb (length p) MAX_STEPS) (answered b p) (refused LONG_PLAN 0)

-- whichever way translating refuses a task, 8 among them, and whatever the area: a list that is too long is answered so, and not by 10
ten_first_lem : (b p : List ℕ) (n i : ℕ) → measured b ≡ Measured.refused n i → 2048 < length p → (room : ℕ)
    → (outcome b room ≡ Outcome.refused n i) × (answered b p ≡ refused n i) × (ten_first b p ≡ refused 10 0)
unfolding answered
ten_first_lem b p n i e h room = (refused_alike b n i e room, rw e, rw (lt-leb (length p) 2048 h))

-- a file of no bytes
no_file : measured [] ≡ Measured.refused 1 0
unfolding check outcome measured
no_file = refl
