-- One effect for each choice, in the order of their numbers.
use mathlib.Core.Path.{◌≡◌, refl, sym, ap, ◌∙◌}
use mathlib.Core.List.{List, [], ◌∷◌, ◌++◌, map, append_assoc}
use Prim.Native.Nat.{ℕ, suc, ◌+◌, ◌-◌, ◌*◌, ◌≤◌, ◌<◌}
use native.Mathlib.Nat.{mul-le-mul_right}
use native.Mathlib.Omega.{arith}
use lib.ListN.{length, length-append, length-map}
use Rattle.lists.specs.Lists.{concat_map, range}
use Rattle.task.specs.Marks.{EFFECT, ADD, DELETE}
use Rattle.meaning.specs.Task.{Literal, Condition, Effect}
use Rattle.task.specs.TaskRows.{Row, row, literal_row, condition_rows, effect_rows}
use Rattle.writer.specs.declared.Cursor.{Cursor}
use Rattle.writer.proofs.Putting.{Onward, Kept}
use Rattle.writer.proofs.Copying.{stretch_long}
use Rattle.singling.specs.Singled.{choices, choice_count, chosen, singled_effect}
use Rattle.singling.specs.ByNumber.{choice_at}
use Rattle.singling.proofs.Lists.{concat-map}
use Rattle.singling.proofs.ByNumber.{choices_by_number}
use Rattle.singling.proofs.Rows.{rows_of_one, singled_rows_lem}
use Rattle.single_effects.specs.Effects.{Choosable, picked_rows, change_rows, EffectAt, picked_effect}
use Rattle.single_effects.specs.declared.shapes.Shape.{Shape}

pub choosable : {ms vs : List ℕ} {at : ℕ} {s : Shape} {e : Effect} → EffectAt ms vs at s e → (j : ℕ) → j < s.choices
    → Choosable ms vs (record { from = at + 1; to = s.changes.from }) (record { choices = s.choices; number = j }) e.condition
choosable E j h = record { condition = E.condition; all_of = E.choices; one_of = h }

pub one_effect_lem : (e : Effect) (j : ℕ) → (row EFFECT 0 ∷ []) ++ picked_rows e.condition j ++ change_rows e ≡ picked_effect e j
one_effect_lem e j =
    ap (λ (xs : List Row). row EFFECT 0 ∷ xs) (sym (append_assoc (picked_rows e.condition j) (map (row ADD) e.adds) (map (row DELETE) e.deletes)))

-- the choices from number j on
abbrev pub picked_from : Effect → ℕ → ℕ → List Row
picked_from e n j = concat_map (picked_effect e) (range j (n - j))

pub all_picked : (e : Effect) → concat_map effect_rows (singled_effect e) ≡ picked_from e (choice_count e.condition) 0
all_picked e =
    let n : ℕ = choice_count e.condition in
    let whole : n ≡ n - 0 = omega arith in
    concat-map effect_rows (chosen e) (choices e.condition)
    ∙ ap (concat_map (λ (ls : List Literal). effect_rows (chosen e ls))) (choices_by_number e.condition)
    ∙ concat-map (λ (ls : List Literal). effect_rows (chosen e ls)) (choice_at e.condition) (range 0 n)
    ∙ ap (λ (m : ℕ). concat_map (picked_effect e) (range 0 m)) whole

pub next_picked : (e : Effect) (n j : ℕ) → j < n → picked_effect e j ++ picked_from e n (j + 1) ≡ picked_from e n j
next_picked e n j h = let m : n - j ≡ suc (n - (j + 1)) = omega arith in rw m refl

pub none_picked : (e : Effect) (n j : ℕ) → n ≤ j → picked_from e n j ≡ []
none_picked e n j h = let m : n - j ≡ 0 = omega arith in rw m refl

-- the loop: the choices from number j on are left
pub record Repeating (b : List ℕ) (c : Cursor) (e : Effect) (n : ℕ) (out : List ℕ) (j : ℕ) (k : Cursor) : Type 0 where
  pub so_far : Kept b out k
  pub onward : Onward b c (picked_from e n 0) out k (picked_from e n j)

-- How many rows there are

clauses_few : (c : Condition) → length c ≤ length (condition_rows c)
clauses_few [] = omega arith
clauses_few (k ∷ c) = omega (arith, clauses_few c, length-append (map literal_row k) (condition_rows c))

module _ {ms vs : List ℕ} {at : ℕ} {s : Shape} {e : Effect} (E : EffectAt ms vs at s e) where
  pub few_clauses : s.clauses ≤ length ms
  few_clauses = omega (arith, E.clauses, clauses_few e.condition, E.condition.long, E.condition.inside)

  changed : length e.adds + length e.deletes ≡ s.changes.to - s.changes.from
  changed =
      let o = E.order in
      omega (
        arith,
        stretch_long ms vs s.changes.from s.changes.to o.whole o.inside,
        ap length E.changes,
        length-append (map (row ADD) e.adds) (map (row DELETE) e.deletes),
        length-map e.adds (row ADD),
        length-map e.deletes (row DELETE),
      )

  one : 1 + 2 * s.clauses + (s.changes.to - s.changes.from) ≡ rows_of_one e
  one = omega (arith, E.clauses, changed)

  pub as_many : (n : ℕ) → n ≡ 1 + 2 * s.clauses + (s.changes.to - s.changes.from) → s.choices * n ≡ length (concat_map effect_rows (singled_effect e))
  as_many n q = (λ z. E.choices z * (q ∙ one) z) ∙ sym (singled_rows_lem e)

  pub many_fit : (n : ℕ) → n ≡ 1 + 2 * s.clauses + (s.changes.to - s.changes.from) → length ms ≤ 12000 → s.choices * n < 18446744073709551616
  many_fit n q h =
      let m : s.choices * n ≤ 64 * n = mul-le-mul_right n E.few in
      omega (arith, few_clauses, E.order.inside)
