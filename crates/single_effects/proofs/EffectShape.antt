-- Where an effect stands, its shape is found.
use mathlib.Core.Path.{◌≡◌, refl, sym, ap, ◌∙◌, subst⁻¹}
use mathlib.Core.List.{List, [], ◌∷◌, ◌++◌, map, append_assoc}
use Prim.Native.Nat.{ℕ, ◌+◌, ◌≤◌}
use native.Mathlib.Omega.{arith}
use lib.Dec.{T}
use lib.ListN.{length, drop, length-append, length-drop}
use Rattle.lists.specs.Lists.{all}
use Rattle.task.specs.Marks.{EFFECT, CLAUSE, LACKS, ADD, DELETE}
use Rattle.meaning.specs.Task.{Effect}
use Rattle.task.specs.TaskRows.{Row, row, condition_rows, effect_rows}
use Rattle.task.specs.File.{paired}
use Rattle.task.specs.Rows.{between, Stops}
use Rattle.lists.proofs.Tests.{all_both, all_map}
use Rattle.task.proofs.Bytes.{length-paired}
use Rattle.task.proofs.Positions.{drop_next, drop_after}
use Rattle.task.proofs.Reading.{passes}
use Rattle.layout.specs.Sides.{end_at}
use Rattle.layout.proofs.Ends.{end_after, part_is}
use Rattle.spelling.proofs.TaskSpelled.{narrower}
use Rattle.singling.specs.Singled.{choice_count}
use Rattle.singling.specs.Capped.{count_on}
use Rattle.singling.proofs.Capped.{counted}
use Rattle.single_effects.specs.Shapes.{shape_by, shape_at}
use Rattle.single_effects.specs.Effects.{change_rows, EffectAt}
use Rattle.single_effects.specs.declared.shapes.Shape.{Shape}
use Rattle.single_effects.proofs.Counting.{condition_counted}

changes_pass : (e : Effect) → T (all (passes (between ADD DELETE)) (change_rows e))
changes_pass e =
    all_both (passes (between ADD DELETE)) (map (row ADD) e.adds) (map (row DELETE) e.deletes)
    (all_map (passes (between ADD DELETE)) (row ADD) (λ v. tt) e.adds) (all_map (passes (between ADD DELETE)) (row DELETE) (λ v. tt) e.deletes)

changes_stop : (adds deletes : List ℕ) (xs : List Row) → Stops (between CLAUSE DELETE) xs
    → Stops (between CLAUSE LACKS) ((map (row ADD) adds ++ map (row DELETE) deletes) ++ xs)
changes_stop [] [] xs s = narrower CLAUSE DELETE CLAUSE LACKS (omega arith) (omega arith) xs s
changes_stop [] (n ∷ ns) xs s = refl
changes_stop (n ∷ ns) ds xs s = refl

-- an effect's rows, and then rows xs that are not of it
module _ (ms vs : List ℕ) (at : ℕ) (e : Effect) (xs : List Row) (there : drop at (paired ms vs) ≡ effect_rows e ++ xs)
    (s : Stops (between CLAUSE DELETE) xs) where
  abbrev c : List Row
  c = condition_rows e.condition

  grouped : effect_rows e ++ xs ≡ row EFFECT 0 ∷ (c ++ (change_rows e ++ xs))
  grouped =
      let a : List Row = map (row ADD) e.adds in
      let d : List Row = map (row DELETE) e.deletes in
      cc (append_assoc c a d, append_assoc c (a ++ d) xs)

  after_head : drop (at + 1) (paired ms vs) ≡ c ++ (change_rows e ++ xs)
  after_head = drop_next at (paired ms vs) (row EFFECT 0) (c ++ (change_rows e ++ xs)) (there ∙ grouped)

  abbrev from : ℕ
  from = at + 1 + length c

  after_condition_lem : drop from (paired ms vs) ≡ change_rows e ++ xs
  after_condition_lem = drop_after (at + 1) (paired ms vs) c (change_rows e ++ xs) after_head

  stops : Stops (between CLAUSE LACKS) (change_rows e ++ xs)
  stops = changes_stop e.adds e.deletes xs s

  abbrev to : ℕ
  to = from + length (change_rows e)

  ends : end_at ADD DELETE ms from ≡ to
  ends =
      end_after ADD DELETE ms from vs (change_rows e) xs after_condition_lem (changes_pass e)
      (narrower CLAUSE DELETE ADD DELETE (omega arith) (omega arith) xs s)

  shape : shape_at ms vs at ≡ record { choices = count_on 1 e.condition; clauses = length e.condition; changes = record { from = from; to = to } }
  shape =
      ap (shape_by ms) (condition_counted ms vs (at + 1) e.condition (change_rows e ++ xs) after_head stops)
      ∙ ap (λ (n : ℕ). record { choices = count_on 1 e.condition; clauses = length e.condition; changes = record { from = from; to = n } }) ends

  pub rows_left : drop to (paired ms vs) ≡ xs
  rows_left = drop_after from (paired ms vs) (change_rows e) xs after_condition_lem

  within : to ≤ length ms
  within =
      let n : length (drop at (paired ms vs)) ≡ length (effect_rows e ++ xs) = ap length there in
      omega (arith, ap length grouped, length-append c (change_rows e ++ xs), length-append (change_rows e) xs, length-drop at (paired ms vs), length-paired ms vs)

  -- what shape_of found
  module _ (r : Shape) (found : r ≡ shape_at ms vs at) where
    is : r ≡ record { choices = count_on 1 e.condition; clauses = length e.condition; changes = record { from = from; to = to } }
    is = found ∙ shape

    pub choices_found : r.choices ≡ count_on 1 e.condition
    choices_found = ap (λ (x : Shape). x.choices) is

    pub end_found : r.changes.to ≡ to
    end_found = ap (λ (x : Shape). x.changes.to) is

    pub after_found : r.changes.to ≡ at + length (effect_rows e)
    after_found =
        omega (
          arith,
          end_found,
          ap length grouped,
          length-append (effect_rows e) xs,
          length-append c (change_rows e ++ xs),
          length-append (change_rows e) xs,
        )

    pub left_found : drop r.changes.to (paired ms vs) ≡ xs
    left_found = ap (λ (n : ℕ). drop n (paired ms vs)) end_found ∙ rows_left

    from_found : r.changes.from ≡ from
    from_found = ap (λ (x : Shape). x.changes.from) is

    pub effect_found : choice_count e.condition ≤ 64 → EffectAt ms vs at r e
    effect_found few =
        let same : r.choices ≡ choice_count e.condition = choices_found ∙ counted e.condition ∙ omega arith in
        let after : drop r.changes.from (paired ms vs) ≡ change_rows e ++ xs = ap (λ (n : ℕ). drop n (paired ms vs)) from_found ∙ after_condition_lem in
        record {
          condition = record {
            there = after_head ∙ ap (λ (l : List Row). c ++ l) (sym after);
            stops = subst⁻¹ (Stops (between CLAUSE LACKS)) after stops;
            long = from_found;
            inside = omega (arith, within, from_found);
          };
          changes = part_is ms vs r.changes.from r.changes.to (change_rows e) xs after (omega (arith, end_found, from_found));
          order = record { opened = omega (arith, from_found); whole = omega (arith, from_found, end_found); inside = omega (arith, within, end_found) };
          choices = same;
          clauses = ap (λ (x : Shape). x.clauses) is;
          few = omega arith;
        }
