-- The table of trackers as rows, from the rows xs of φ and ys of ψ.
use Rattle.std.specs.Prelude.{Bool, false, cond, ◌&&◌, ◌||◌, List, [], ◌∷◌, ◌++◌, map, ℕ, ◌+◌, ◌≤◌, ◌<◌, leb, eqb, length}
use Rattle.task.specs.Marks.{EFFECT, HOLDS, LACKS, ADD, DELETE}
use Rattle.task.specs.Marks.{ALWAYS, SOMETIME, AT_END, AT_MOST_ONCE, SOMETIME_BEFORE, SOMETIME_AFTER, WITHIN, ALWAYS_WITHIN}
use Rattle.task.specs.TaskRows.{Row, row}
use Rattle.task.specs.Limits.{MAX_DEADLINE}
use Rattle.lists.specs.Lists.{range, concat_map}
use Rattle.classical.specs.Translation.{fact_d}
use Rattle.layout.specs.Sides.{part}
use Rattle.layout.specs.declared.sides.Sides.{Sides}
use Rattle.layout.specs.declared.sides.Span.{Span}
use Rattle.kind_trackers.specs.declared.Facts.{Facts}
use Rattle.effects.specs.Effects.{single_rows, both_rows, false_rows}

-- beyond the number of any fact that is written, and far below 2 ^ 32
abbrev pub BEYOND : ℕ
BEYOND = 1000000

pub record Small (f : Facts) : Type 0 where
  pub small_s : f.s < BEYOND
  pub small_b : f.b < BEYOND
  pub small_d : f.d < BEYOND

-- the facts D that count so many steps; d is the fact before D1
pub record Timed (d steps : ℕ) : Type 0 where
  pub small : d < BEYOND
  pub few : steps ≤ MAX_DEADLINE

-- ψ is waited for so many steps
pub record Waits (ms : List ℕ) (psi : Span) (f : Facts) (steps : ℕ) : Type 0 where
  pub inside : psi.to ≤ length ms
  pub facts : Small f
  pub few : steps ≤ MAX_DEADLINE

-- both sides are among the source's rows
pub record SidesInside (ms : List ℕ) (p : Sides) : Type 0 where
  pub first_inside : p.first.to ≤ length ms
  pub second_inside : p.second.to ≤ length ms

-- by the rows of both sides
abbrev pub sided : List ℕ → List ℕ → Sides → (List Row → List Row → List Row) → List Row
sided ms vs p rows_of = rows_of (part ms vs p.first) (part ms vs p.second)

-- an effect with the guard gs and the condition xs that changes one fact
abbrev pub change_rows : List Row → List Row → ℕ → ℕ → List Row
change_rows gs xs m n = row EFFECT 0 ∷ gs ++ (xs ++ (row m n ∷ []))

-- The kinds

abbrev pub always_rows : Facts → List Row → List Row → List Row
always_rows f xs ys = false_rows [] (row ADD f.b ∷ []) false xs

-- where it is wanted
abbrev pub reached_rows : Facts → Bool → List Row → List Row → List Row
reached_rows f wanted xs ys = cond wanted (change_rows [] xs ADD f.s) []

abbrev pub once_rows : Facts → List Row → List Row → List Row
once_rows f xs ys =
    change_rows (both_rows LACKS f.s f.b) xs ADD f.s
    ++ (false_rows (single_rows HOLDS f.s) (row ADD f.b ∷ []) false xs ++ change_rows (both_rows HOLDS f.s f.b) xs DELETE f.s)

abbrev pub before_rows : Facts → List Row → List Row → List Row
before_rows f xs ys = change_rows [] ys ADD f.s ++ change_rows (single_rows LACKS f.s) xs ADD f.b

abbrev pub after_rows : Facts → List Row → List Row → List Row
after_rows f xs ys = false_rows xs (row ADD f.b ∷ []) false ys ++ change_rows [] ys DELETE f.b

-- D of j holds: D of j + 1 is added; d is the fact before D1
abbrev pub onward_rows : ℕ → ℕ → List Row
onward_rows d j = change_rows (single_rows HOLDS (d + j)) [] ADD (d + (j + 1))

-- D1 to D of t + 1 count the states
abbrev pub count_rows : ℕ → ℕ → List Row
count_rows d t = change_rows [] [] ADD (d + 1) ++ concat_map (onward_rows d) (range 1 t)

abbrev pub within_rows : Facts → ℕ → List Row → List Row → List Row
within_rows f t xs ys = count_rows f.d t ++ change_rows (single_rows LACKS (f.d + (t + 1))) xs ADD f.s

-- D of j holds with each false clause: D of j + 1 is added
abbrev pub wait_rows : Facts → ℕ → List Row → ℕ → List Row
wait_rows f t ys j = false_rows (single_rows HOLDS (f.d + j)) (row ADD (fact_d t f.s f.d (j + 1)) ∷ []) false ys

abbrev pub all_wait_rows : Facts → ℕ → List Row → List Row
all_wait_rows f t ys = concat_map (wait_rows f t ys) (range 1 t)

abbrev pub reset_rows : Facts → ℕ → List Row → List Row
reset_rows f t ys = change_rows (single_rows LACKS f.s) ys DELETE f.b ++ map (row DELETE) (range (f.d + 1) t)

abbrev pub soon_rows : Facts → ℕ → List Row → List Row → List Row
soon_rows f t xs ys =
    false_rows xs (row ADD f.b ∷ row ADD (fact_d t f.s f.d 1) ∷ []) false ys ++ (all_wait_rows f t ys ++ reset_rows f t ys)

-- The trackers by a preference's mark; t are its steps, and last says that they stand in end
unfoldable pub tracker_rows : ℕ → ℕ → Bool → Facts → List Row → List Row → List Row
tracker_rows m t last f xs ys =
    cond (eqb m ALWAYS) (always_rows f xs ys)
    (cond (eqb m AT_MOST_ONCE) (once_rows f xs ys)
    (cond (eqb m SOMETIME_BEFORE) (before_rows f xs ys)
    (cond (eqb m SOMETIME_AFTER) (after_rows f xs ys)
    (cond (eqb m WITHIN) (within_rows f t xs ys)
    (cond (eqb m ALWAYS_WITHIN) (soon_rows f t xs ys)
    (cond (leb SOMETIME m && leb m AT_END) (reached_rows f (eqb m SOMETIME || last) xs ys) []))))))
