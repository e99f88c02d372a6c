-- Wrong definitions, each beside the right one, and what goes wrong on the belt.
use mathlib.Core.Path.{◌≡◌, refl}
use mathlib.Core.Bool.{cond}
use mathlib.Core.List.{List, [], ◌∷◌}
use Prim.Native.Nat.{ℕ, ◌/◌, ◌%◌, ◌≤◌}
use native.Mathlib.Omega.{arith}
use lib.ListN.{replicate}
use Rattle.task.specs.Check.{check, check_rows}
use Rattle.meaning.specs.Verdict.{verdict}
use Rattle.task.proofs.Belt.{belt}
use Rattle.figures.specs.Plans.{readable}
use Rattle.figures.specs.Figures.{Amounts, solve}
use Rattle.figures.specs.Week.{given, has_unknown, fault_number, week_of}
use Rattle.figures.specs.Sound.{Sound}
use Rattle.figures.proofs.Examples.{four}

abbrev right : Amounts
right = record { meetings = 0 ∷ 3 ∷ []; lowest = 8; highest = 12; total = 28; quotient = 9; remainder = 1 }

of_four : week_of belt four ≡ given (solve 3 right)
unfolding week_of check check_rows verdict readable
of_four = refl

-- The mean over all of n plans: it is below the least metric.

abbrev over_all : ℕ → Amounts → Amounts
over_all n a =
    record {
      meetings = a.meetings;
      lowest = a.lowest;
      highest = a.highest;
      total = a.total;
      quotient = a.total / n;
      remainder = a.total % n;
    }

pub mean_over_all : Sound 2 3 (over_all 4 right) → ⊥
mean_over_all s = let low : 8 ≤ 7 = s.not_below in omega arith

-- 11 before 10 on one plan: a long plan of unknown steps, which the document refuses by 10.

abbrev eleven_first : ℕ → List ℕ → ℕ
eleven_first A p = cond (has_unknown A p) 11 10

pub eleven_before_ten : (fault_number (replicate 2049 2) ≡ 10) × (eleven_first 2 (replicate 2049 2) ≡ 11)
eleven_before_ten = (refl, refl)
