-- The sides of a preference, read from the rows that spell it.
use mathlib.Core.Path.{◌≡◌, refl, sym, ap, ◌∙◌, subst}
use mathlib.Core.Bool.{Bool, true, false, cond, ◌||◌}
use mathlib.Core.List.{List, [], ◌∷◌, ◌++◌, append_assoc}
use Prim.Native.Nat.{ℕ, ◌+◌, ◌≤◌, ◌<◌}
use native.Mathlib.Nat.{add-zero}
use native.Mathlib.Omega.{arith}
use lib.Dec.{T}
use lib.ListN.{length, drop, get_or, length-append, length-drop}
use Rattle.lists.specs.Lists.{concat_map, is_empty}
use Rattle.task.specs.Marks.{SECOND}
use Rattle.meaning.specs.Task.{Condition, Preference}
use Rattle.task.specs.TaskRows.{Row, row}
use Rattle.meaning.specs.Task.{two_sided}
use Rattle.task.specs.TaskRows.{kind_mark, steps_rows, condition_rows, preference_rows}
use Rattle.task.specs.File.{paired, soft_mark}
use Rattle.task.specs.Spelling.{preference_spellable}
use Rattle.meaning.specs.Literals.{looked_at, looked_preference}
use Rattle.meaning.specs.Meaning.{State as Facts, is_true}
use Rattle.task.specs.Rows.{Stops}
use Rattle.lists.proofs.Tests.{tests}
use Rattle.task.proofs.Bytes.{length-paired}
use Rattle.task.proofs.Passing.{second_rows}
use Rattle.task.proofs.Positions.{drop_next, drop_after, preferences_stop}
use Rattle.task.proofs.Steps.{after_steps, soft_at}
use Rattle.reading.specs.Conditions.{in_condition, begin, read_as, evaluate_at}
use Rattle.reading.specs.declared.conditions.Evaluated.{Evaluated}
use Rattle.reading.proofs.ConditionRows.{condition_at, condition_ends}
use Rattle.monitors.specs.Monitors.{head_rows, is_two_sided, one_side, both_sides, first_side, sides_at}
use Rattle.monitors.specs.declared.Sides.{Sides}
use Rattle.monitors.proofs.ByMark.{head_rows_lem, head_least, side_count, kind_past}

-- a kind of one side has no ψ
no_second : (ψ : Condition) → T (is_empty ψ) → ψ ≡ []
no_second [] t = refl
no_second (c ∷ ψ) t = absurd t

-- r has the sides of q, which row i opens, in state σ
pub record SidesOf (q : Preference) (i : ℕ) (σ : Facts) (r : Sides) : Type 0 where
  pub phi : r.phi ≡ is_true σ q.first
  pub psi : r.psi ≡ is_true σ q.second
  pub looked : r.looked ≡ looked_preference σ q
  pub next : r.next ≡ i + length (preference_rows q)

module _ (ms vs : List ℕ) (σ : Facts) where
  -- where the loop over a condition ends
  not_before : (i : ℕ) → i ≤ (evaluate_at σ begin ms vs i).next
  not_before i = (condition_ends σ begin ms vs i).0

  pub few_rows : (i : ℕ) (r : Evaluated) → r ≡ evaluate_at σ begin ms vs i → r.next ≤ i + length ms
  few_rows i r e =
      omega (arith, (condition_ends σ begin ms vs i).1, length-drop i (paired ms vs), length-paired ms vs, ap (λ (x : Evaluated). x.next) e)

  module _ (i : ℕ) (h : i < length ms) (q : Preference) (qs : List Preference)
      (e : drop i (paired ms vs) ≡ concat_map preference_rows (q ∷ qs)) (ok : T (preference_spellable q)) where
    pub mark_is : soft_mark (get_or ms i 0) ≡ kind_mark q.kind
    mark_is = soft_at ms vs i q (concat_map preference_rows qs) e h

    abbrev more : List Row
    more = concat_map preference_rows qs

    -- φ begins after the opening row, and after the steps
    abbrev from : ℕ
    from = i + 1 + length (steps_rows q.kind)

    from_is : i + head_rows (soft_mark (get_or ms i 0)) ≡ from
    from_is = ap (λ (m : ℕ). i + head_rows m) mark_is ∙ omega (arith, head_rows_lem q.kind)

    after_head : drop from (paired ms vs) ≡ condition_rows q.first ++ (second_rows q ++ more)
    after_head = after_steps ms vs i q more e ∙ append_assoc (condition_rows q.first) (second_rows q) more

    first_is : Stops in_condition (second_rows q ++ more)
        → evaluate_at σ begin ms vs from ≡ read_as σ q.first (from + length (condition_rows q.first))
    first_is stop = condition_at σ ms vs from q.first (second_rows q ++ more) after_head stop

    -- how many rows the preference has
    all_rows : length (preference_rows q) ≡ 1 + length (steps_rows q.kind) + length (condition_rows q.first) + length (second_rows q)
    all_rows =
        omega (
          arith,
          length-append (steps_rows q.kind) (condition_rows q.first ++ second_rows q),
          length-append (condition_rows q.first) (second_rows q),
        )

    module _ (r : Evaluated) (first_read : r ≡ evaluate_at σ begin ms vs (i + head_rows (soft_mark (get_or ms i 0)))) where
      first_whole : Stops in_condition (second_rows q ++ more)
          → r ≡ read_as σ q.first (from + length (condition_rows q.first))
      first_whole stop = first_read ∙ ap (evaluate_at σ begin ms vs) from_is ∙ first_is stop

      one_side_lem : is_two_sided (soft_mark (get_or ms i 0)) ≡ false → SidesOf q i σ (one_side r)
      one_side_lem e₁ =
          let one : two_sided q.kind ≡ false = sym (ap is_two_sided mark_is ∙ side_count q.kind) ∙ e₁ in
          let whole : r ≡ read_as σ q.first (from + length (condition_rows q.first)) =
          first_whole (rw one (preferences_stop in_condition kind_past qs)) in
          let empty_second : q.second ≡ [] = no_second q.second (subst (λ (b : Bool). T (b || is_empty q.second)) one (search tests)) in
          let no_rows : length (second_rows q) ≡ 0 = rw one in
          record {
            phi = ap (λ (x : Evaluated). x.holds) whole;
            psi = sym (ap (is_true σ) empty_second);
            looked = ap (λ (x : Evaluated). x.looked) whole ∙ rw one (sym (add-zero (looked_at σ q.first)));
            next = ap (λ (x : Evaluated). x.next) whole ∙ omega (arith, all_rows, no_rows);
          }

      two_sides : is_two_sided (soft_mark (get_or ms i 0)) ≡ true → (x : Evaluated) → x ≡ evaluate_at σ begin ms vs (r.next + 1)
          → SidesOf q i σ (both_sides r x)
      two_sides e₁ x second_read =
          let two : two_sided q.kind ≡ true = sym (ap is_two_sided mark_is ∙ side_count q.kind) ∙ e₁ in
          let at : ℕ = from + length (condition_rows q.first) in
          let whole : r ≡ read_as σ q.first at = first_whole (rw two refl) in
          let after_second : drop (at + 1) (paired ms vs) ≡ condition_rows q.second ++ more =
          drop_next at (paired ms vs) (row SECOND 0) (condition_rows q.second ++ more)
          (drop_after from (paired ms vs) (condition_rows q.first) (second_rows q ++ more) after_head ∙ rw two) in
          let second_whole : x ≡ read_as σ q.second (at + 1 + length (condition_rows q.second)) =
          second_read ∙ ap (λ (y : Evaluated). evaluate_at σ begin ms vs (y.next + 1)) whole
          ∙ condition_at σ ms vs (at + 1) q.second more after_second (preferences_stop in_condition kind_past qs) in
          let rows : length (second_rows q) ≡ 1 + length (condition_rows q.second) = rw two (omega arith) in
          record {
            phi = ap (λ (y : Evaluated). y.holds) whole;
            psi = ap (λ (y : Evaluated). y.holds) second_whole;
            looked = (λ z. (whole z).looked + (second_whole z).looked) ∙ rw two;
            next = ap (λ (y : Evaluated). y.next) second_whole ∙ omega (arith, all_rows, rows);
          }

    pub sides_are : SidesOf q i σ (sides_at σ ms vs i)
    unfolding sides_at
    sides_are = go (is_two_sided (soft_mark (get_or ms i 0))) refl
      where
        first : Evaluated
        first = first_side σ ms vs i

        second : Evaluated
        second = evaluate_at σ begin ms vs ((first_side σ ms vs i).next + 1)

        go : (b : Bool) → is_two_sided (soft_mark (get_or ms i 0)) ≡ b → SidesOf q i σ (cond b (both_sides first second) (one_side first))
        go true two = two_sides first refl two second refl
        go false one = one_side_lem first refl one

  -- as the code reads them
  module _ (i : ℕ) (r : Evaluated) (first_read : r ≡ first_side σ ms vs i) where
    pub one_read : is_two_sided (soft_mark (get_or ms i 0)) ≡ false → one_side r ≡ sides_at σ ms vs i
    unfolding sides_at
    one_read one = rw one (ap one_side first_read)

    pub both_read : is_two_sided (soft_mark (get_or ms i 0)) ≡ true → (x : Evaluated) → x ≡ evaluate_at σ begin ms vs (r.next + 1)
        → both_sides r x ≡ sides_at σ ms vs i
    unfolding sides_at
    both_read two x second_read =
        let second : x ≡ evaluate_at σ begin ms vs ((first_side σ ms vs i).next + 1) =
        second_read ∙ ap (λ (y : Evaluated). evaluate_at σ begin ms vs (y.next + 1)) first_read in
        rw two (λ z. both_sides (first_read z) (second z))

  -- the loop goes on after the opening row
  pub later : (i : ℕ) (r : Evaluated) (m : ℕ) → r ≡ evaluate_at σ begin ms vs (i + head_rows m) → i < r.next
  later i r m e = omega (arith, head_least m, not_before (i + head_rows m), ap (λ (x : Evaluated). x.next) e)

  pub later_still : (i : ℕ) (x : Evaluated) → x ≡ evaluate_at σ begin ms vs (i + 1) → i < x.next
  later_still i x e = omega (arith, not_before (i + 1), ap (λ (y : Evaluated). y.next) e)
