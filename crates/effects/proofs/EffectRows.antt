-- The rows of effects are those of a task's effects, where their conditions spell conditions.
use mathlib.Core.Path.{◌≡◌, refl, sym, ap, ◌∙◌}
use mathlib.Core.Bool.{Bool, true, false, not, cond}
use mathlib.Core.List.{List, [], ◌∷◌, ◌++◌, map, append_assoc, append-nil}
use Prim.Native.Nat.{ℕ}
use Rattle.lists.specs.Lists.{singleton, concat_map}
use Rattle.task.specs.Marks.{EFFECT, CLAUSE, HOLDS, LACKS, ADD, DELETE}
use Rattle.meaning.specs.Task.{Clause, Condition, Effect}
use Rattle.task.specs.TaskRows.{Row, row, literal_row, clause_rows, condition_rows, effect_rows}
use Rattle.lists.proofs.Tests.{concat-append}
use Rattle.classical.specs.Translation.{deny, alone, effect, each_false}
use Rattle.effects.specs.Effects.{false_rows}

pub rows_append : (c d : Condition) → condition_rows (c ++ d) ≡ condition_rows c ++ condition_rows d
rows_append = concat-append clause_rows

pub effects_append : (es fs : List Effect) → concat_map effect_rows (es ++ fs) ≡ concat_map effect_rows es ++ concat_map effect_rows fs
effects_append = concat-append effect_rows

-- an effect after other clauses g
pub effect_rows_lem : (g φ : Condition) (adds deletes : List ℕ)
    → effect_rows (effect (g ++ φ) adds deletes) ≡ row EFFECT 0 ∷ (condition_rows g ++ (condition_rows φ ++ (map (row ADD) adds ++ map (row DELETE) deletes)))
effect_rows_lem g φ adds deletes =
    cc (
      rows_append g φ,
      append_assoc (condition_rows (g ++ φ)) (map (row ADD) adds) (map (row DELETE) deletes),
      append_assoc (condition_rows g) (condition_rows φ) (map (row ADD) adds ++ map (row DELETE) deletes),
    )

pub add_rows : (g φ : Condition) (n : ℕ) → effect_rows (effect (g ++ φ) (singleton n) []) ≡ row EFFECT 0 ∷ (condition_rows g ++ (condition_rows φ ++ (row ADD n ∷ [])))
add_rows g φ n = effect_rows_lem g φ (singleton n) []

pub delete_rows : (g φ : Condition) (n : ℕ) → effect_rows (effect (g ++ φ) [] (singleton n)) ≡ row EFFECT 0 ∷ (condition_rows g ++ (condition_rows φ ++ (row DELETE n ∷ [])))
delete_rows g φ n = effect_rows_lem g φ [] (singleton n)

module _ (g : Condition) (adds : List ℕ) where
  abbrev gs : List Row
  gs = condition_rows g

  abbrev zs : List Row
  zs = map (row ADD) adds

  literal_false : (h : Bool) (n : ℕ) (xs : List Row)
      → false_rows gs zs true (row (cond h HOLDS LACKS) n ∷ xs) ≡ row CLAUSE 0 ∷ row (cond (not h) HOLDS LACKS) n ∷ false_rows gs zs true xs
  unfolding false_rows
  literal_false true n xs = refl
  literal_false false n xs = refl

  literals_false : (ls : Clause) (xs : List Row)
      → false_rows gs zs true (map literal_row ls ++ xs) ≡ condition_rows (alone (map deny ls)) ++ false_rows gs zs true xs
  literals_false [] xs = refl
  literals_false (l ∷ ls) xs =
      literal_false l.holds l.fact (map literal_row ls ++ xs)
      ∙ ap (λ (ys : List Row). row CLAUSE 0 ∷ literal_row (deny l) ∷ ys) (literals_false ls xs)

  -- one clause, with the rest of the condition after it
  clause_false : (ls : Clause) (xs ys : List Row) → false_rows gs zs true xs ≡ zs ++ ys
      → row EFFECT 0 ∷ (gs ++ false_rows gs zs true (map literal_row ls ++ xs)) ≡ effect_rows (effect (g ++ alone (map deny ls)) adds []) ++ ys
  clause_false ls xs ys e =
      let d : List Row = condition_rows (alone (map deny ls)) in
      let one_effect_lem : effect_rows (effect (g ++ alone (map deny ls)) adds []) ≡ row EFFECT 0 ∷ (gs ++ (d ++ zs)) =
      effect_rows_lem g (alone (map deny ls)) adds [] ∙ ap (λ (us : List Row). row EFFECT 0 ∷ (gs ++ (d ++ us))) (append-nil zs) in
      ap (λ (us : List Row). row EFFECT 0 ∷ (gs ++ us)) (literals_false ls xs ∙ ap (λ (us : List Row). d ++ us) e ∙ sym (append_assoc d zs ys))
      ∙ ap (λ (us : List Row). row EFFECT 0 ∷ us) (sym (append_assoc gs (d ++ zs) ys))
      ∙ ap (λ (us : List Row). us ++ ys) (sym one_effect_lem)

  clauses_false : (φ : Condition) → false_rows gs zs true (condition_rows φ) ≡ zs ++ concat_map effect_rows (each_false g φ adds)
  unfolding false_rows
  clauses_false [] = sym (append-nil zs)
  clauses_false (c ∷ φ) =
      append_assoc zs (row EFFECT 0 ∷ gs) (false_rows gs zs true (map literal_row c ++ condition_rows φ))
      ∙ ap (λ (us : List Row). zs ++ us) (clause_false c (condition_rows φ) (concat_map effect_rows (each_false g φ adds)) (clauses_false φ))

  pub false_is : (φ : Condition) → false_rows gs zs false (condition_rows φ) ≡ concat_map effect_rows (each_false g φ adds)
  unfolding false_rows
  false_is [] = refl
  false_is (c ∷ φ) = clause_false c (condition_rows φ) (concat_map effect_rows (each_false g φ adds)) (clauses_false φ)
