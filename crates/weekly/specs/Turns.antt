-- What is asked of a plan that is taken in, so that no sum wraps.
use Rattle.std.specs.Prelude.{◌≡◌, List, ℕ, ◌*◌, ◌≤◌, length, Result, Ok, Err}
use Rattle.task.specs.declared.Refusal.{Refusal}
use Rattle.settling.specs.declared.Worth.{Worth}
use Rattle.plan.specs.Walked
use Rattle.plan.specs.Walked.{Walk, walked}
use Rattle.figures.specs.Pass.{AtMost, MOST}
use Rattle.weekly.specs.declared.tally.Totals.{Totals}
use Rattle.task.specs.Limits.{MAX_PLANS, MAX_PREFERENCES}

-- there is room for one more in each count
pub record Counts (cs : List ℕ) : Type 0 where
  pub few : AtMost MAX_PLANS cs
  pub sixteen : length cs ≡ MAX_PREFERENCES

-- and for one plan more in all
pub record Room (t : Totals) : Type 0 where
  pub few : t.solving ≤ MAX_PLANS
  pub sum : t.sum ≤ MAX_PLANS * MOST
  pub counts : Counts t.meeting

-- settle's metric is one that a plan can have
abbrev pub Cheap : Result Worth Refusal → Type 0
Cheap (Ok w) = w.metric ≤ MOST
Cheap (Err r) = Unit {0}

-- walk gave the verdict w on the file b and some plan
abbrev pub WalkedTo : List ℕ → Walk → Type 0
WalkedTo b w = (p : List ℕ) × (looked : ℕ) × (Walked.given w looked ≡ walked b p)
