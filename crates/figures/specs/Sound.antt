-- What the figures of a week keep to.
use Rattle.std.specs.Prelude.{◌≡◌, ℕ, ◌+◌, ◌*◌, ◌≤◌, ◌<◌, T, leb, length}
use Rattle.lists.specs.Lists.{all}
use Rattle.figures.specs.Figures.{Amounts, Figures, none_solves, solve}
use Rattle.figures.specs.Week.{Answer, given, refused}
use Rattle.task.specs.Limits.{MAX_PLANS}

-- where n plans solve, of P preferences
pub record Sound (P n : ℕ) (a : Amounts) : Type 0 where
  pub one_solves : 1 ≤ n
  pub each_preference : length a.meetings ≡ P
  pub meeting_solve : T (all (λ (c : ℕ). leb c n) a.meetings)
  pub mean : a.quotient * n + a.remainder ≡ a.total
  pub rest : a.remainder < n
  pub not_below : a.lowest ≤ a.quotient
  pub not_above : a.quotient ≤ a.highest
  -- the same of the mean with its remainder
  pub at_least : n * a.lowest ≤ a.total
  pub at_most : a.total ≤ n * a.highest

abbrev pub SoundIn : ℕ → Figures → Type 0
SoundIn P none_solves = Unit {0}
SoundIn P (solve n a) = Sound P n a

-- at most 64 plans, a sum that is at most this, and no metric over the sum
pub record SumWithin (most n : ℕ) (a : Amounts) : Type 0 where
  pub few : n ≤ MAX_PLANS
  pub small : a.total ≤ most
  pub within : a.highest ≤ a.total

abbrev pub SumsWithin : ℕ → Figures → Type 0
SumsWithin most none_solves = Unit {0}
SumsWithin most (solve n a) = SumWithin most n a

abbrev pub IfGiven : (Figures → Type 0) → Answer → Type 0
IfGiven holds (given x) = holds x
IfGiven holds (refused n i) = Unit {0}
