-- What settle answers on a task file, a cost and a set of met preferences: document 02, request 5.
use Rattle.std.specs.Prelude.{Bool, not, cond, ◌&&◌, List, [], ◌∷◌, ℕ, ◌+◌, ◌-◌, leb, ℤ, pos, ◌-ℤ◌}
use Rattle.lists.specs.Lists.{any, range}
use Rattle.meaning.specs.Task.{Preference, Task}
use Rattle.task.specs.File.{task_of}
use Rattle.task.specs.Check
use Rattle.task.specs.Check.{Answer, check}
use Rattle.task.specs.Limits.{MAX_COST}
use Rattle.task.specs.Refused.{ARGUMENT}

-- metric and utility, or a refusal with a number and a place
pub data Settled : Type 0 where
  worth : ℕ → ℤ → Settled
  refused : ℕ → ℕ → Settled

-- the weights of the preferences in a set of numbers, the first of the list being number k
abbrev pub weight_of : (ℕ → Bool) → ℕ → List Preference → ℕ
weight_of chosen k [] = 0
weight_of chosen k (q ∷ qs) = cond (chosen k) q.weight 0 + weight_of chosen (k + 1) qs

-- the cost and the weights of the others; the weights of the met ones less the cost
abbrev pub worth_of : Task → ℕ → (ℕ → Bool) → Settled
worth_of t cost met =
    worth (cost + weight_of (λ (k : ℕ). not (met k)) 0 t.preferences) (pos (weight_of met 0 t.preferences) -ℤ pos cost)

-- a cost that 2,048 steps can have, and no met preference from P on; the numbers of a set are below 64
abbrev pub arguments_allowed : ℕ → ℕ → (ℕ → Bool) → Bool
arguments_allowed P cost met = leb cost MAX_COST && not (any met (range P (64 - P)))

abbrev pub settled_by : List ℕ → ℕ → (ℕ → Bool) → Answer → Settled
settled_by b cost met (Check.refused n i) = refused n i
settled_by b cost met (Check.accepted z) = cond (arguments_allowed z.preferences cost met) (worth_of (task_of b) cost met) (refused ARGUMENT 0)

unfoldable pub settled : List ℕ → ℕ → (ℕ → Bool) → Settled
settled b cost met = settled_by b cost met (check b)
