-- How many rows the effects have that one effect becomes.
use mathlib.Core.Path.{◌≡◌, refl, ◌∙◌, ap}
use mathlib.Core.List.{List, [], ◌∷◌, ◌++◌, map}
use Prim.Native.Nat.{ℕ, ◌+◌, ◌*◌}
use native.Mathlib.Omega.{arith}
use lib.Dec.{T, eqb→eq}
use lib.ListN.{length, length-append, length-map}
use Rattle.lists.specs.Lists.{singleton, concat_map}
use Rattle.task.specs.Marks.{EFFECT, ADD, DELETE}
use Rattle.meaning.specs.Task.{Literal, Effect}
use Rattle.task.specs.TaskRows.{Row, row, condition_rows, effect_rows}
use Rattle.singling.specs.Singled.{choices, choice_count, chosen, singled_effect}
use Rattle.singling.proofs.Lists.{concat-map, length-concat_where}
use Rattle.singling.proofs.Choices.{choices_counted, has_length, choices_whole}

-- two for each literal
single_rows_lem : (ls : List Literal) → length (condition_rows (map singleton ls)) ≡ 2 * length ls
single_rows_lem [] = refl
single_rows_lem (l ∷ ls) = omega (arith, single_rows_lem ls)

chosen_rows : (e : Effect) (ls : List Literal)
    → length (effect_rows (chosen e ls)) ≡ 1 + 2 * length ls + length e.adds + length e.deletes
chosen_rows e ls =
    let c : List Row = row EFFECT 0 ∷ condition_rows (map singleton ls) in
    let a : List Row = map (row ADD) e.adds in
    let d : List Row = map (row DELETE) e.deletes in
    omega (
      arith,
      length-append (c ++ a) d,
      length-append c a,
      single_rows_lem ls,
      length-map e.adds (row ADD),
      length-map e.deletes (row DELETE),
    )

-- the rows of one of them, by the parts of the effect
abbrev pub rows_of_one : Effect → ℕ
rows_of_one e = 1 + 2 * length e.condition + length e.adds + length e.deletes

pub singled_rows_lem : (e : Effect) → length (concat_map effect_rows (singled_effect e)) ≡ choice_count e.condition * rows_of_one e
singled_rows_lem e =
    let c : List (List Literal) = choices e.condition in
    let each : (ls : List Literal) → T (has_length (length e.condition) ls) → length (effect_rows (chosen e ls)) ≡ rows_of_one e =
    λ ls g. omega (arith, chosen_rows e ls, eqb→eq (length ls) (length e.condition) g) in
    ap length (concat-map effect_rows (chosen e) c)
    ∙ length-concat_where (has_length (length e.condition)) (λ (ls : List Literal). effect_rows (chosen e ls)) (rows_of_one e) each c
    (choices_whole e.condition)
    ∙ ap (λ (n : ℕ). n * rows_of_one e) (choices_counted e.condition)
