-- The corollary that cost is metric: what the planner pays is what walk and settle say.
use Rattle.std.specs.Prelude.{◌≡◌, Bool, List, ℕ, ◌≤◌, T, ℤ, length, take}
use Rattle.task.specs.File.{task_of}
use Rattle.meaning.specs.Meaning.{solves, cost}
use Rattle.classical.specs.Claim.{source_part}
use Rattle.plan.specs.Walked.{given, solved, walked}
use Rattle.settling.specs.Settled.{worth, settled}
use Rattle.task.specs.Limits.{MAX_STEPS}

-- walk answers solved, and settle then metric m
abbrev pub SettledAt : List ℕ → List ℕ → ℕ → Type 0
SettledAt b p m =
    (c : ℕ) × (u : ℤ) × (met : ℕ → Bool) × (looked : ℕ) × (walked b p ≡ given (solved c met) looked) × (settled b c met ≡ worth m u)

-- b holds the source, the first n bytes of the area its translation;
-- pays: a list that solves the translation costs the metric of its source part, where that has at most 2,048 steps;
-- offers: where a plan comes to metric m, some list with that source part solves the translation at cost m
pub record CostIsMetric (b area : List ℕ) (n : ℕ) : Type 0 where
  pub pays : (x : List ℕ) → T (solves (task_of (take n area)) x) → length (source_part (task_of b) x) ≤ MAX_STEPS
      → SettledAt b (source_part (task_of b) x) (cost (task_of (take n area)) x)
  pub offers : (p : List ℕ) (m : ℕ) → SettledAt b p m
      → (x : List ℕ) × T (solves (task_of (take n area)) x) × (source_part (task_of b) x ≡ p) × (cost (task_of (take n area)) x ≡ m)

-- Single literals in effects: b is the file that was read, the first n bytes of the area what was written. Where b is a translation,
-- solutions of what was written cost their source part's metric as well
abbrev pub StillPaid : List ℕ → List ℕ → ℕ → Type 0
StillPaid b area n = (source compiled : List ℕ) (m : ℕ) → take m compiled ≡ b → CostIsMetric source compiled m → CostIsMetric source area n
