-- Wrong rewritings, each beside the right one on a small input, and what goes wrong.
use mathlib.Core.Path.{◌≡◌, refl, ap}
use mathlib.Core.Bool.{true, false, cond, ◌&&◌, ◌||◌}
use mathlib.Core.List.{List, [], ◌∷◌, ◌++◌, map, append-nil}
use mathlib.Core.Option.{Option, none, some}
use Prim.Native.Nat.{ℕ, suc, ◌+◌, ◌*◌, ◌<◌}
use native.Mathlib.Omega.{arith}
use lib.Dec.{leb, eqb, lit<}
use lib.ListN.{length, drop, length-append}
use borrow.Author.Tests.{lt-leb}
use Rattle.lists.specs.Lists.{singleton, concat_map}
use Rattle.meaning.specs.Task.{Literal, Condition, Effect, Action}
use Rattle.meaning.specs.Meaning.{State, after}
use Rattle.task.specs.Marks.{EFFECT, ACTION, GOAL, START}
use Rattle.task.specs.TaskRows.{Row, row, condition_rows, effect_rows, action_rows, preference_rows, task_rows}
use Rattle.task.specs.File.{has_mark}
use Rattle.outcome.specs.Outcome.{Outcome, refused}
use Rattle.singling.specs.Singled.{choices, choice_count, singled_effect, singled_action, singled}
use Rattle.singling.specs.Wide.{is_wide, condition_here, first_wide, wide_at}
use Rattle.singling.specs.Outcome.{rows_fitted}
use Rattle.singling.proofs.Examples.{holding, effect, yard, pairs, five, thirteen}
use Rattle.singling.proofs.Rows.{rows_of_one, singled_rows_lem}

-- The first clause varies fastest

abbrev fastest : Condition → List (List Literal)
fastest [] = singleton []
fastest (c ∷ cs) = concat_map (λ (ls : List Literal). map (λ (l : Literal). l ∷ ls) c) (fastest cs)

abbrev facts : List (List Literal) → List (List ℕ)
facts = map (map (λ (l : Literal). l.fact))

abbrev two : Condition
two = holding (0 ∷ 1 ∷ []) ∷ holding (2 ∷ 3 ∷ []) ∷ []

pub right_order : facts (choices two) ≡ (0 ∷ 2 ∷ []) ∷ (0 ∷ 3 ∷ []) ∷ (1 ∷ 2 ∷ []) ∷ (1 ∷ 3 ∷ []) ∷ []
right_order = refl

-- the second choice has another literal of the first clause
pub wrong_order : facts (fastest two) ≡ (0 ∷ 2 ∷ []) ∷ (1 ∷ 2 ∷ []) ∷ (0 ∷ 3 ∷ []) ∷ (1 ∷ 3 ∷ []) ∷ []
wrong_order = refl

-- Effects that lead elsewhere

-- fact 0 is added and fact 1 deleted where fact 2 or fact 3 holds
abbrev e : Effect
e = effect (singleton (holding (2 ∷ 3 ∷ [])))

abbrev by : (Effect → List Effect) → Action
by f = record { cost = 3; precondition = []; effects = f e }

abbrev itself : Action
itself = by singleton

-- facts 1 and n hold
abbrev with : ℕ → State
with n m = eqb m 1 || eqb m n

-- only the first choice deletes
abbrev undeleted : Effect → Effect
undeleted x = record { condition = x.condition; adds = x.adds; deletes = [] }

abbrev first_only : List Effect → List Effect
first_only [] = []
first_only (x ∷ xs) = x ∷ map undeleted xs

-- where fact 3 holds, fact 1 stays
pub deletes_once : (after (with 3) (by (λ (x : Effect). first_only (singled_effect x))) 1 ≡ true) × (after (with 3) itself 1 ≡ false)
deletes_once = (refl, refl)

-- where fact 2 holds, fact 0 is not added without the first choice
pub choice_left_out : (after (with 2) (by (λ (x : Effect). drop 1 (singled_effect x))) 0 ≡ false) × (after (with 2) itself 0 ≡ true)
choice_left_out = (refl, refl)

-- The last effect with too many choices

abbrev later : Option ℕ → Option ℕ → Option ℕ
later none o = o
later (some i) o = some i

abbrev last_wide : ℕ → List Row → Option ℕ
last_wide i [] = none
last_wide i (x ∷ xs) = later (last_wide (suc i) xs) (cond (has_mark EFFECT x && is_wide (condition_here xs)) (some i) none)

abbrev wide : Effect
wide = effect (five ∷ thirteen ∷ [])

abbrev both : List Row
both = task_rows (yard (wide ∷ wide ∷ []))

-- row 32 is its place, and row 9 is one already
pub last_place : (last_wide 0 both ≡ some 32) × (wide_at both 9 ≡ true) × (first_wide 0 both ≡ some 9)
last_place = (refl, refl, refl)

-- 8 before 17

abbrev eight_first : ℕ → ℕ → Option ℕ → Outcome
eight_first n room o = cond (leb n 12000) (rows_fitted n room o) (refused 8 0)

-- the yard with an effect of many choices has more rows than a file may have
module _ (x : Effect) (i : ℕ) (h : 12000 < choice_count x.condition * rows_of_one x) where
  abbrev new : ℕ
  new = length (task_rows (singled (yard (x ∷ []))))

  many : 12000 < new
  unfolding singled
  many =
      let y = yard (x ∷ []) in
      let front : List Row = map (row START) y.start ++ (row GOAL 0 ∷ condition_rows y.goal) in
      let head : List Row = row ACTION 3 ∷ condition_rows (singleton (holding (1 ∷ 2 ∷ []))) in
      let acts : List Row = concat_map action_rows (map singled_action y.actions) in
      let prefs : List Row = concat_map preference_rows y.preferences in
      let es : List Row = concat_map effect_rows (singled_effect x) in
      let own : concat_map effect_rows (singled_effect x ++ []) ≡ es = ap (concat_map effect_rows) (append-nil (singled_effect x)) in
      omega (
        arith,
        singled_rows_lem x,
        ap length own,
        length-append (front ++ acts) prefs,
        length-append front acts,
        length-append (head ++ concat_map effect_rows (singled_effect x ++ [])) [],
        length-append head (concat_map effect_rows (singled_effect x ++ [])),
      )

  eight_first_lem : first_wide 0 (task_rows (yard (x ∷ []))) ≡ some i → (room : ℕ)
      → (eight_first new room (first_wide 0 (task_rows (yard (x ∷ [])))) ≡ refused 8 0)
      × (rows_fitted new room (first_wide 0 (task_rows (yard (x ∷ [])))) ≡ refused 17 i)
  eight_first_lem e room = (rw (lt-leb new 12000 many) refl, ap (rows_fitted new room) e)

-- 16,384 choices, at row 9
abbrev huge : Effect
huge = effect (pairs ++ pairs ++ two)

pub eight_for_huge : (room : ℕ)
    → (eight_first (new huge 9 (lit< tt)) room (first_wide 0 (task_rows (yard (huge ∷ [])))) ≡ refused 8 0)
    × (rows_fitted (new huge 9 (lit< tt)) room (first_wide 0 (task_rows (yard (huge ∷ [])))) ≡ refused 17 9)
eight_for_huge = eight_first_lem huge 9 (lit< tt) refl
