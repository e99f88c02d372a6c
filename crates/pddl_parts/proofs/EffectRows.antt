-- An effect: its condition, what it adds and what it deletes; and the effects of an action, each after a space.
use mathlib.Core.Path.{◌≡◌, refl, ap, ◌∙◌, subst}
use mathlib.Core.List.{List, [], ◌∷◌, ◌++◌, map, append_assoc}
use Prim.Native.Nat.{ℕ, ◌+◌}
use native.Mathlib.Omega.{arith}
use lib.Dec.{T}
use lib.ListN.{length, drop, length-append}
use Rattle.lists.specs.Lists.{all}
use Rattle.task.specs.Marks.{EFFECT, ADD, DELETE}
use Rattle.meaning.specs.Task.{Effect}
use Rattle.task.specs.TaskRows.{Row, row, condition_rows, effect_rows}
use Rattle.task.specs.File.{paired}
use Rattle.task.specs.Rows.{between, Stops}
use Rattle.lists.proofs.Tests.{all_both, all_map, concat-append}
use Rattle.task.proofs.Reading.{passes}
use Rattle.task.proofs.Positions.{drop_next, drop_after}
use Rattle.text.specs.Ascii.{ascii}
use Rattle.text.specs.Area.{Wrote}
use Rattle.text.proofs.Writing.{then}
use Rattle.pddl_parts.specs.Pddl.{spaced, fact_text, not_text, condition_text, effect_text}
use Rattle.pddl_parts.specs.Rows.{row_text, Listed, list_at, ended_at}
use Rattle.pddl_parts.specs.Pieces.{condition, effect}
use Rattle.pddl_parts.specs.Writing.{stretch, Spells, PieceAnswer}
use Rattle.pddl_parts.specs.declared.conditions.Emitted.{Emitted}
use Rattle.pddl_parts.proofs.Listing.{narrowed, each_text, lists}
use Rattle.pddl_parts.proofs.Emitting.{Parts}

abbrev change_rows : Effect → List Row
change_rows e = map (row ADD) e.adds ++ map (row DELETE) e.deletes

abbrev pub effect_parts : Parts Effect
effect_parts = record {
  head = EFFECT;
  most = DELETE;
  inside = refl;
  value = λ e. 0;
  body = λ e. condition_rows e.condition ++ map (row ADD) e.adds ++ map (row DELETE) e.deletes;
  piece = λ n e. ascii " " ++ effect_text e;
  text = λ n l. spaced effect_text l;
  no_more = λ n. refl;
  one_more = λ n e l. refl;
}

-- The rows of an effect's changes

changes_text_lem : (e : Effect) → spaced row_text (change_rows e) ≡ spaced fact_text e.adds ++ spaced not_text e.deletes
changes_text_lem e =
    concat-append (λ (x : Row). ascii " " ++ row_text x) (map (row ADD) e.adds) (map (row DELETE) e.deletes)
    ∙ (λ i. each_text (row ADD) fact_text (λ n. refl) e.adds i ++ each_text (row DELETE) not_text (λ n. refl) e.deletes i)

changes_between : (e : Effect) → T (all (passes (between 6 7)) (change_rows e))
changes_between e =
    all_both (passes (between 6 7)) (map (row ADD) e.adds) (map (row DELETE) e.deletes)
    (all_map (passes (between 6 7)) (row ADD) (λ n. tt) e.adds) (all_map (passes (between 6 7)) (row DELETE) (λ n. tt) e.deletes)

-- a condition ends before them
changes_stop : (adds deletes : List ℕ) (xs : List Row) → Stops (between 3 7) xs → Stops (between 3 5) ((map (row ADD) adds ++ map (row DELETE) deletes) ++ xs)
changes_stop [] [] xs s = narrowed 3 7 3 5 (omega arith) (omega arith) xs s
changes_stop [] (n ∷ ns) xs s = refl
changes_stop (n ∷ ns) deletes xs s = refl

module _ (ms vs : List ℕ) (from : ℕ) where
  from_condition : (e : Effect) (xs : List Row) → drop from (paired ms vs) ≡ effect_rows e ++ xs
      → drop (from + 1) (paired ms vs) ≡ condition_rows e.condition ++ (change_rows e ++ xs)
  from_condition e xs spelled =
      let conditions : List Row = condition_rows e.condition in
      drop_next from (paired ms vs) (row EFFECT 0) (conditions ++ map (row ADD) e.adds ++ map (row DELETE) e.deletes ++ xs) spelled
      ∙ cc (append_assoc conditions (map (row ADD) e.adds) (map (row DELETE) e.deletes), append_assoc conditions (change_rows e) xs)

  pub its_condition : Spells effect (stretch ms vs from) → Spells condition (stretch ms vs (from + 1))
  its_condition (e, xs, spelled, s) = (e.condition, change_rows e ++ xs, from_condition e xs spelled, changes_stop e.adds e.deletes xs s)

-- An effect, from what was written of its parts
module _ (ms vs : List ℕ) (from : ℕ) {b o₁ o₂ o₃ o₄ o₅ : List ℕ} {at k₁ k₃ k₄ k₅ next : ℕ} {c : Emitted}
    (w₁ : Wrote b at (ascii "(when ") k₁ o₁)
    (guard : PieceAnswer condition (stretch ms vs (from + 1)) o₁ k₁ c o₂)
    (w₃ : Wrote o₂ c.at (ascii " (and") k₃ o₃)
    (w₄ : Wrote o₃ k₃ (list_at 6 7 ms vs c.next).text k₄ o₄)
    (w₅ : Wrote o₄ k₄ (ascii "))") k₅ o₅)
    (read : next ≡ (list_at 6 7 ms vs c.next).next) where
  by_parts : (e : Effect) (xs : List Row) → drop from (paired ms vs) ≡ effect_rows e ++ xs → Stops (between 3 7) xs
      → Wrote b at (effect_text e) k₅ o₅ × (next ≡ from + length (effect_rows e))
  by_parts e xs spelled s =
      let a : List ℕ = spaced fact_text e.adds in
      let d : List ℕ = spaced not_text e.deletes in
      let conditions : List Row = condition_rows e.condition in
      let here : drop (from + 1) (paired ms vs) ≡ conditions ++ (change_rows e ++ xs) = from_condition ms vs from e xs spelled in
      let (w₂, after) = guard.puts e.condition (change_rows e ++ xs) here (changes_stop e.adds e.deletes xs s) in
      let there : drop c.next (paired ms vs) ≡ change_rows e ++ xs =
      ap (λ (i : ℕ). drop i (paired ms vs)) after ∙ drop_after (from + 1) (paired ms vs) conditions (change_rows e ++ xs) here in
      let listed : list_at 6 7 ms vs c.next ≡ ended_at (a ++ d) (c.next + length (change_rows e)) =
      lists 6 7 ms vs c.next (change_rows e) xs there (changes_between e) (narrowed 3 7 6 7 (omega arith) (omega arith) xs s)
      ∙ ap (λ (t : List ℕ). ended_at t (c.next + length (change_rows e))) (changes_text_lem e) in
      let changes : Wrote o₃ k₃ (a ++ d) k₄ o₄ = subst (λ (l : Listed). Wrote o₃ k₃ l.text k₄ o₄) listed w₄ in
      let ended : (a ++ d) ++ ascii "))" ≡ (a ++ (d ++ ascii ")")) ++ ascii ")" =
      cc (append_assoc a d (ascii "))"), append_assoc a (d ++ ascii ")") (ascii ")"), append_assoc d (ascii ")") (ascii ")")) in (
        subst (λ (t : List ℕ). Wrote b at (ascii "(when " ++ (condition_text e.condition ++ (ascii " (and" ++ t))) k₅ o₅) ended (then w₁ (then w₂ (then w₃ (then changes w₅)))),
        omega (arith, read ∙ ap (λ (l : Listed). l.next) listed, after, length-append conditions (map (row ADD) e.adds), length-append (conditions ++ map (row ADD) e.adds) (map (row DELETE) e.deletes), length-append (map (row ADD) e.adds) (map (row DELETE) e.deletes)),
      )

  pub effect_put : PieceAnswer effect (stretch ms vs from) b at (record { at = k₅; next = next }) o₅
  effect_put = record { puts = by_parts }
