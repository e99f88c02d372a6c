-- Translate and search together: what search answers on the translation of the task in the bytes b. The lists are of any length, and the
-- sums whole numbers without a limit.
use Rattle.std.specs.Prelude.{◌≡◌, ◌↔◌, List, ℕ, ◌≤◌, T, take}
use Rattle.meaning.specs.Task.{Task}
use Rattle.meaning.specs.Meaning.{solves, metric}
use Rattle.task.specs.File.{task_of}
use Rattle.classical.specs.Claim.{source_part}
use Rattle.translation.specs.Translated.{Delivered}
use Rattle.searching.specs.Claim.{Unsolvable}
use Rattle.searched.specs.Searched.{Answer, found, no_plan, full}
use Rattle.searched.specs.Claim.{Tried}

-- p solves, and no list that solves has a lower metric
pub record LeastMetric (s : Task) (p : List ℕ) : Type 0 where
  pub solution : T (solves s p)
  pub least : (q : List ℕ) → T (solves s q) → metric s p ≤ metric s q

-- the source steps of a plan for the translation
abbrev pub source_plan : List ℕ → List ℕ → List ℕ
source_plan b p = source_part (task_of b) p

-- plan, priced: the source part of a plan found has the least metric of all plans of the source, which is the cost found;
-- none: a search that isn't full finds no plan exactly if no plan solves the source
pub record Optimal (b : List ℕ) (x : Answer) : Type 0 where
  pub plan : (p : List ℕ) (c : ℕ) → x ≡ found p c → LeastMetric (task_of b) (source_plan b p)
  pub priced : (p : List ℕ) (c : ℕ) → x ≡ found p c → metric (task_of b) (source_plan b p) ≡ c
  pub none : Tried x → (x ≡ full → ⊥) → (x ≡ no_plan) ↔ Unsolvable (task_of b)

-- x is so for every source of which the bytes c are the translation
abbrev pub OptimalOn : List ℕ → Answer → Type 0
OptimalOn c x = (b area : List ℕ) (n : ℕ) → Delivered b area n → take n area ≡ c → Optimal b x
