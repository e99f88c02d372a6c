-- What is promised of the answer to a week, beside its definition.
use Rattle.std.specs.Prelude.{◌≡◌, List, ℕ, ◌*◌, length}
use Rattle.task.specs.File.{sizes}
use Rattle.task.specs.Limits.{MAX_PLANS}
use Rattle.figures.specs.Plans.{entries, step_bytes}
use Rattle.figures.specs.Figures.{Figures}
use Rattle.figures.specs.Week.{Answer, given, week_of}
use Rattle.figures.specs.Pass.{MOST}
use Rattle.figures.specs.Reordered.{Reordered}
use Rattle.figures.specs.Sound.{SoundIn, SumsWithin, IfGiven}

-- two files of the same plans: their entries stand in another order, over the same step bytes
pub record SamePlans (f g : List ℕ) : Type 0 where
  pub same_length : length f ≡ length g
  pub same_bytes : step_bytes f ≡ step_bytes g
  pub reordered : Reordered (entries f) (entries g)

-- of the answer x to the task file b and the plans file f
pub record Promised (b f : List ℕ) (x : Answer) : Type 0 where
  pub sound : IfGiven (SoundIn (sizes b).preferences) x
  -- at most 64 plans solve, and no sum is over 64 of the greatest metric
  pub fits : IfGiven (SumsWithin (MAX_PLANS * MOST)) x
  -- the figures do not hang on the order of the plans
  pub any_order : (g : List ℕ) → SamePlans f g → (y : Figures) → x ≡ given y → week_of b g ≡ given y
