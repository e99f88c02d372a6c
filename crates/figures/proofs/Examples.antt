-- Document 01's belt, with some weeks of plans, computed.
use mathlib.Core.Path.{◌≡◌, refl}
use mathlib.Core.List.{List, [], ◌∷◌}
use Prim.Native.Nat.{ℕ}
use lib.ListN.{replicate}
use Rattle.task.specs.Check.{check, check_rows}
use Rattle.meaning.specs.Verdict.{verdict}
use Rattle.task.proofs.Belt.{belt}
use Rattle.figures.specs.Plans.{plans, readable}
use Rattle.figures.specs.Figures.{none_solves, solve}
use Rattle.figures.specs.Week.{given, refused, week_of}

-- Four plans that overlap, over the steps 0 1 0: all of them, the first, none, the last. The one of no steps misses the goal.

abbrev pub four : List ℕ
four = 4 ∷ 0 ∷ 0 ∷ 0 ∷ 0 ∷ 0 ∷ 3 ∷ 0 ∷ 2 ∷ 0 ∷ 3 ∷ 0 ∷ 1 ∷ 0 ∷ 0 ∷ 0 ∷ 1 ∷ 0 ∷ 0 ∷ 1 ∷ 0 ∷ []

four_plans : plans four ≡ (0 ∷ 1 ∷ 0 ∷ []) ∷ (0 ∷ []) ∷ [] ∷ (0 ∷ []) ∷ []
four_plans = refl

four_figures : week_of belt four
    ≡ given (solve 3 (record { meetings = 0 ∷ 3 ∷ []; lowest = 8; highest = 12; total = 28; quotient = 9; remainder = 1 }))
unfolding week_of check check_rows verdict readable
four_figures = refl

-- none of two solves: no amounts
none_of_two : week_of belt (2 ∷ 0 ∷ 0 ∷ 0 ∷ 1 ∷ 0 ∷ 0 ∷ 0 ∷ 1 ∷ 0 ∷ 0 ∷ 1 ∷ []) ≡ given none_solves
unfolding week_of check check_rows verdict readable
none_of_two = refl

-- Refused: in order, by the task; no count; a count of 0, of 65; arrays cut short; a plan, then one of no steps, past the end

abbrev one_plan : ℕ → ℕ → List ℕ → List ℕ
one_plan start steps bytes = 1 ∷ 0 ∷ start ∷ 0 ∷ steps ∷ 0 ∷ bytes

unreadable : (week_of [] [] ≡ refused 1 0)
    × (week_of belt (1 ∷ []) ≡ refused 18 0)
    × (week_of belt (0 ∷ 0 ∷ 0 ∷ []) ≡ refused 18 0)
    × (week_of belt (65 ∷ 0 ∷ replicate 260 0) ≡ refused 18 0)
    × (week_of belt (1 ∷ 0 ∷ 0 ∷ 0 ∷ 0 ∷ []) ≡ refused 18 0)
    × (week_of belt (one_plan 1 1 (0 ∷ [])) ≡ refused 18 0)
    × (week_of belt (one_plan 2 0 (0 ∷ [])) ≡ refused 18 0)
unfolding week_of check check_rows verdict readable
unreadable = (refl, refl, refl, refl, refl, refl, refl)

-- 64 plans of no steps, at the very end, are read
most_plans : week_of belt (64 ∷ 0 ∷ replicate 256 0) ≡ given none_solves
unfolding week_of check check_rows verdict readable
most_plans = refl

-- Refused: an unknown step in plan 1; a long plan of unknown steps; such a plan after one with an unknown step; 18 before both

abbrev two_plans : ℕ → ℕ → ℕ → List ℕ → List ℕ
two_plans first low high bytes = 2 ∷ 0 ∷ 0 ∷ 0 ∷ 0 ∷ 0 ∷ first ∷ 0 ∷ low ∷ high ∷ bytes

faulty : (week_of belt (two_plans 1 2 0 (0 ∷ 2 ∷ [])) ≡ refused 11 1)
    × (week_of belt (two_plans 0 1 8 (replicate 2049 2)) ≡ refused 10 1)
    × (week_of belt (two_plans 1 1 8 (replicate 2049 2)) ≡ refused 11 0)
    × (week_of belt (two_plans 1 2 8 (replicate 2049 2)) ≡ refused 18 0)
unfolding week_of check check_rows verdict readable
faulty = (refl, refl, refl, refl)
