-- The text of a plan with its cost, and what a search answers of it.
use mathlib.Core.Path.{◌≡◌, sym, ◌∙◌, ap}
use mathlib.Core.List.{List, ◌++◌}
use Prim.Native.Nat.{ℕ, ◌+◌}
use native.Mathlib.Omega.{arith}
use lib.ListN.{length}
use Rattle.text.specs.Area.{Wrote, Filled}
use Rattle.text.specs.Ascii.{ascii}
use Rattle.text.specs.Text.{decimal}
use Rattle.text.proofs.Writing.{then, from_start}
use Rattle.plan_lines.specs.PlanText.{text_of}
use Rattle.searched.specs.Searched
use Rattle.searched.specs.Searched.{Answer}
use Rattle.planned.specs.Planned.{planned_text, written, outcome_of, area_after}

-- the steps, and then the cost
pub with_cost : (p : List ℕ) (c : ℕ) (area mid out : List ℕ) (j k : ℕ) → Filled area (text_of p) j mid
    → Wrote mid j (ascii "; cost = " ++ (decimal c ++ ascii "\n")) k out → Filled area (planned_text p c) k out
unfolding planned_text
with_cost p c area mid out j k F W = from_start (then (record { after = F.size ∙ zero_first; area = F.area }) W)
  where
    zero_first : length (text_of p) ≡ 0 + length (text_of p)
    zero_first = omega arith

-- what is written of a plan that was found
pub found_written : (a : Answer) (p : List ℕ) (c : ℕ) → Searched.found p c ≡ a → (area out : List ℕ) (r : ℕ) → Filled area (planned_text p c) r out
    → (written r ≡ outcome_of a) × (out ≡ area_after a area)
found_written a p c e area out r F = (ap written F.size ∙ ap outcome_of e, F.area ∙ ap (λ (x : Answer). area_after x area) e)

-- what is answered where there is none
pub none_written : (a b : Answer) → b ≡ a → (area : List ℕ) → area_after b area ≡ area → (outcome_of b ≡ outcome_of a) × (area ≡ area_after a area)
none_written a b e area same = (ap outcome_of e, sym same ∙ ap (λ (x : Answer). area_after x area) e)
