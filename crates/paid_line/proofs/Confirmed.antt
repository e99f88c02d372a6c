-- The line about the source part of what a planner prints, where its list solves the task that translate wrote: what was paid, and no more.
use mathlib.Core.Path.{◌≡◌}
use mathlib.Core.List.{List}
use Prim.Native.Nat.{ℕ}
use lib.Dec.{T}
use lib.ListN.{take}
use Rattle.task.specs.File.{task_of}
use Rattle.meaning.specs.Meaning.{solves, cost}
use Rattle.plan_text.specs.Outcomes.{steps_in}
use Rattle.translation.specs.Translated.{Delivered}
use Rattle.source.specs.Source.{Returned}
use Rattle.paid_line.specs.Paid.{paid_line, line_on}
use Rattle.paid_line.proofs.Compared.{equal}

-- translate has written the first n bytes of `compiled` of the file b, and source the first m of `part` of b and the text t
pub paid_in_full : (b t compiled part : List ℕ) (n m : ℕ) → Delivered b compiled n → Returned b t part m
    → T (solves (task_of (take n compiled)) (steps_in t))
    → line_on b (take m part) (cost (task_of (take n compiled)) (steps_in t)) ≡ paid_line (cost (task_of (take n compiled)) (steps_in t))
paid_in_full b t compiled part n m d r solving =
    equal b (take m part) (cost (task_of (take n compiled)) (steps_in t)) (r.way compiled n d solving).1
