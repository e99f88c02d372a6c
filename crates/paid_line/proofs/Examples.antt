-- Lines about plans of the belt: what was paid is the metric, or it is not, or the plan does not solve.
use mathlib.Core.Path.{◌≡◌, refl}
use mathlib.Core.List.{List, [], ◌∷◌, map}
use Prim.Native.Nat.{ℕ}
use Prim.Native.String.{String}
use Rattle.task.specs.Check.{check, check_rows}
use Rattle.task.proofs.Belt.{belt}
use Rattle.meaning.specs.Verdict.{verdict}
use Rattle.plan.specs.Judged.{judged}
use Rattle.plan.specs.Walked.{walked}
use Rattle.settling.specs.Settled.{settled}
use Rattle.text.specs.Ascii.{ascii}
use Rattle.text.specs.Text.{decimal}
use Rattle.paid_line.specs.Paid.{metric_of, paid_line, otherwise_line, unsolved_line, line_on}

pub record Example : Type 0 where
  pub given : List ℕ
  pub said : String

abbrev example : List ℕ → String → Example
example g s = record { given = g; said = s }

-- the last three: the goal is missed, there is no action 2, and a file that check refuses
abbrev examples : List Example
examples =
    example (line_on belt (0 ∷ []) 8) "paid 8\n"
    ∷ example (line_on belt (1 ∷ 0 ∷ []) 9) "paid 9\n"
    ∷ example (line_on belt (0 ∷ []) 7) "paid 7 but worth 8\n"
    ∷ example (line_on belt (0 ∷ []) 18446744073709551615) "paid 18446744073709551615 but worth 8\n"
    ∷ example (line_on belt [] 12) "paid 12 but not solved\n"
    ∷ example (line_on belt (0 ∷ 2 ∷ []) 8) "paid 8 but not solved\n"
    ∷ example (line_on [] (0 ∷ []) 8) "paid 8 but not solved\n"
    ∷ []

pub as_said : map (λ (e : Example). e.given) examples ≡ map (λ (e : Example). ascii e.said) examples
unfolding check check_rows judged verdict walked settled decimal metric_of paid_line otherwise_line unsolved_line
as_said = refl
