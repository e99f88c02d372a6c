-- Request 13's claim for every well-formed task, and for every accepted file within the sizes.
use mathlib.Core.Path.{subst⁻¹}
use mathlib.Core.List.{List}
use Prim.Native.Nat.{ℕ, ◌+◌, ◌*◌, ◌≤◌}
use lib.Dec.{T}
use mathlib.Core.Path.{◌≡◌}
use Rattle.meaning.specs.Task.{Task, well_formed}
use Rattle.task.specs.File.{Sizes, task_of}
use Rattle.task.specs.Check.{check, accepted}
use Rattle.task.proofs.Spelled.{accepted_spelling}
use Rattle.classical.specs.Translation.{further, translated, compiled, compiled_rows}
use Rattle.classical.proofs.Written.{written}
use Rattle.losses.specs.Losses.{Losses}
use Rattle.losses.proofs.Left.{exactly}
use Rattle.losses.proofs.Missed.{missed}
use Rattle.losses.proofs.Bound.{bound}

pub losses : (t : Task) → T (well_formed t) → Losses t (translated t)
losses t wf =
    record {
      missed = λ xs ys ok k h. missed t wf k h xs ys ok;
      exactly = λ xs ok k h l. exactly t wf k h l xs ok;
      bound = bound t wf;
    }

-- the task in the bytes of a translation
pub losses_written : (b : List ℕ) (z : Sizes) → check b ≡ accepted z
    → z.facts + 3 * z.preferences + 2 + further (task_of b).preferences ≤ 128 → z.actions + 2 * z.preferences + 1 ≤ 128 → compiled_rows b ≤ 12000
    → Losses (task_of b) (task_of (compiled b))
losses_written b z h f a n =
    subst⁻¹ (Losses (task_of b)) (written b z h f a n).reading (losses (task_of b) (accepted_spelling b z h).formed)
