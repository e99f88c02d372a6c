-- The line of an action, and the lines of all.
use mathlib.Core.Path.{◌≡◌, refl, ap, ◌∙◌, subst}
use mathlib.Core.List.{List, ◌++◌, append_assoc}
use Prim.Native.Nat.{ℕ, ◌+◌, ◌<◌}
use native.Mathlib.Omega.{arith}
use lib.ListN.{length, drop, length-append}
use Rattle.lists.specs.Lists.{concat_map, concat_from}
use Rattle.task.specs.Marks.{ACTION, DELETE}
use Rattle.meaning.specs.Task.{Action}
use Rattle.task.specs.TaskRows.{Row, row, condition_rows, effect_rows, action_rows}
use Rattle.task.specs.File.{paired}
use Rattle.task.specs.Rows.{value_at, between, Stops}
use Rattle.task.proofs.Passing.{step_rows}
use Rattle.task.proofs.Reading.{value_at_lem}
use Rattle.task.proofs.Positions.{drop_next, drop_after, effects_stop}
use Rattle.text.specs.Ascii.{ascii}
use Rattle.text.specs.Text.{decimal}
use Rattle.text.specs.Area.{Wrote}
use Rattle.text.proofs.Writing.{then}
use Rattle.pddl_parts.specs.Pddl.{spaced, condition_text, effect_text, head_text, cost_text, action_line}
use Rattle.pddl_parts.specs.Pieces.{condition, effects, action}
use Rattle.pddl_parts.specs.Writing.{stretch, Spells, PieceAnswer}
use Rattle.pddl_parts.specs.declared.conditions.Emitted.{Emitted}
use Rattle.pddl_parts.proofs.Listing.{narrowed}
use Rattle.pddl_parts.proofs.Emitting.{Parts}

abbrev pub action_parts : Parts Action
action_parts = record {
  head = ACTION;
  most = DELETE;
  inside = refl;
  value = λ a. a.cost;
  body = step_rows;
  piece = action_line;
  text = concat_from action_line;
  no_more = λ n. refl;
  one_more = λ n a l. refl;
}

-- the parts of a line
grouped : (a d p c e n r f : List ℕ) → (a ++ (d ++ p)) ++ (c ++ ((e ++ (n ++ r)) ++ f)) ≡ a ++ (d ++ (p ++ (c ++ (e ++ (n ++ (r ++ f))))))
grouped a d p c e n r f =
    let x : List ℕ = c ++ ((e ++ (n ++ r)) ++ f) in
    cc (append_assoc a (d ++ p) x, append_assoc d p x, append_assoc e (n ++ r) f, append_assoc n r f)

module _ (ms vs : List ℕ) (from : ℕ) where
  from_precondition : (a : Action) (xs : List Row) → drop from (paired ms vs) ≡ action_rows a ++ xs
      → drop (from + 1) (paired ms vs) ≡ condition_rows a.precondition ++ (concat_map effect_rows a.effects ++ xs)
  from_precondition a xs spelled =
      drop_next from (paired ms vs) (row ACTION a.cost) (step_rows a ++ xs) spelled
      ∙ append_assoc (condition_rows a.precondition) (concat_map effect_rows a.effects) xs

  before_effects : (a : Action) (xs : List Row) → Stops (between 2 7) xs → Stops (between 3 5) (concat_map effect_rows a.effects ++ xs)
  before_effects a xs s = effects_stop (between 3 5) refl a.effects xs (narrowed 2 7 3 5 (omega arith) (omega arith) xs s)

  from_effects : (a : Action) (xs : List Row) → drop from (paired ms vs) ≡ action_rows a ++ xs → (next : ℕ) → next ≡ from + 1 + length (condition_rows a.precondition)
      → drop next (paired ms vs) ≡ concat_map effect_rows a.effects ++ xs
  from_effects a xs spelled next after =
      ap (λ (i : ℕ). drop i (paired ms vs)) after
      ∙ drop_after (from + 1) (paired ms vs) (condition_rows a.precondition) (concat_map effect_rows a.effects ++ xs) (from_precondition a xs spelled)

  -- whatever the action's number
  pub its_precondition : Spells (action 0) (stretch ms vs from) → Spells condition (stretch ms vs (from + 1))
  its_precondition (a, xs, spelled, s) = (a.precondition, concat_map effect_rows a.effects ++ xs, from_precondition a xs spelled, before_effects a xs s)

  pub its_effects : {b : List ℕ} {at : ℕ} {c : Emitted} {out : List ℕ} → PieceAnswer condition (stretch ms vs (from + 1)) b at c out
      → Spells (action 0) (stretch ms vs from) → Spells effects (stretch ms vs c.next)
  its_effects {b} {at} {c} {out} precondition (a, xs, spelled, s) =
      let (w, after) = precondition.puts a.precondition (concat_map effect_rows a.effects ++ xs) (from_precondition a xs spelled) (before_effects a xs s) in
      (a.effects, xs, from_effects a xs spelled c.next after, s)

-- A line, from what was written of its parts
module _ (number : ℕ) (ms vs : List ℕ) (from : ℕ) (within : from < length ms)
    {b o₁ o₂ o₃ o₄ o₅ : List ℕ} {at k₁ k₃ k₅ cost : ℕ} {c d : Emitted}
    (w₁ : Wrote b at (head_text number) k₁ o₁)
    (precondition : PieceAnswer condition (stretch ms vs (from + 1)) o₁ k₁ c o₂)
    (price : cost ≡ value_at vs from)
    (w₃ : Wrote o₂ c.at (cost_text cost) k₃ o₃)
    (changes : PieceAnswer effects (stretch ms vs c.next) o₃ k₃ d o₄)
    (w₅ : Wrote o₄ d.at (ascii "))\n") k₅ o₅) where
  by_parts : (a : Action) (xs : List Row) → drop from (paired ms vs) ≡ action_rows a ++ xs → Stops (between 2 7) xs
      → Wrote b at (action_line number a) k₅ o₅ × (d.next ≡ from + length (action_rows a))
  by_parts a xs spelled s =
      let pre : List Row = condition_rows a.precondition in
      let es : List Row = concat_map effect_rows a.effects in
      let (w₂, after) = precondition.puts a.precondition (es ++ xs) (from_precondition ms vs from a xs spelled) (before_effects ms vs from a xs s) in
      let (w₄, last) = changes.puts a.effects xs (from_effects ms vs from a xs spelled c.next after) s in
      let paid : cost ≡ a.cost = price ∙ value_at_lem ms vs from within spelled in
      let rest : List ℕ = spaced effect_text a.effects ++ ascii "))\n" in
      let whole : head_text number ++ (condition_text a.precondition ++ (cost_text cost ++ rest)) ≡ action_line number a =
      ap (λ (n : ℕ). head_text number ++ (condition_text a.precondition ++ (cost_text n ++ rest))) paid
      ∙ grouped (ascii "(:action a") (decimal number) (ascii " :parameters () :precondition ") (condition_text a.precondition)
      (ascii " :effect (and (increase (total-cost) ") (decimal a.cost) (ascii ")") rest in
      (subst (λ (t : List ℕ). Wrote b at t k₅ o₅) whole (then w₁ (then w₂ (then w₃ (then w₄ w₅)))), omega (arith, last, after, length-append pre es))

  pub line_put : PieceAnswer (action number) (stretch ms vs from) b at (record { at = k₅; next = d.next }) o₅
  line_put = record { puts = by_parts }
