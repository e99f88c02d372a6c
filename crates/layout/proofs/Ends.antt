-- Where the parts of a task end: the rows of a part up to the first row that is not of it.
use mathlib.Core.Path.{◌≡◌, refl, sym, ap, ◌∙◌}
use mathlib.Core.Bool.{Bool, true, false, cond, ◌&&◌}
use mathlib.Core.List.{List, [], ◌∷◌, ◌++◌, append_assoc}
use Prim.Native.Nat.{ℕ, zero, suc, ◌+◌, ◌-◌, ◌≤◌, ◌<◌}
use native.Mathlib.Nat.{add-zero}
use native.Mathlib.Omega.{arith}
use lib.Dec.{T, leb}
use lib.ListN.{length, drop, get_or}
use lib.Seq.{take-append_seam}
use borrow.Author.Tests.{le-leb, lt-leb}
use Rattle.lists.specs.Lists.{all, concat_map}
use Rattle.task.specs.Marks.{CLAUSE, LACKS, SECOND, STEPS}
use Rattle.meaning.specs.Task.{Condition, Preference, two_sided}
use Rattle.task.specs.TaskRows.{Row, row, steps_rows, condition_rows, preference_rows}
use Rattle.task.specs.File.{paired}
use Rattle.task.specs.Rows.{between, run, run_at, Stops}
use Rattle.task.proofs.Passing.{condition_passes, steps_pass}
use Rattle.task.proofs.Steps.{after_opening, after_steps, soft_at}
use Rattle.task.proofs.Reading.{passes, run-stop, run_through, goes_on, stops_at, ends_at}
use Rattle.task.proofs.Positions.{drop_after, preferences_stop, past_kinds}
use Rattle.layout.specs.Sides.{stretch, end_at, first_from, first_to, second_from, second_to, sides_at, Located}

abbrev still : Unit {0} → Row → Unit {0}
still w x = w

abbrev here : Unit {0} → ℕ → ℕ
here w i = i

-- The loop

-- the values play no part
pub any_values : (p : ℕ → Bool) (k i : ℕ) (ms vs us : List ℕ) → run still p here tt k (drop i (paired ms vs)) ≡ run still p here tt k (drop i (paired ms us))
unfolding run
any_values p k zero [] vs us = refl
any_values p k zero (m ∷ ms) vs us = ap (λ (r : ℕ). cond (p m) r k) (any_values p (k + 1) zero ms (drop 4 vs) (drop 4 us))
any_values p k (suc i) [] vs us = refl
any_values p k (suc i) (m ∷ ms) vs us = any_values p k i ms (drop 4 vs) (drop 4 us)

module _ (least most : ℕ) (ms : List ℕ) (i : ℕ) where
  pub end_below : i < length ms → get_or ms i 0 < least → end_at least most ms i ≡ i
  end_below h l =
      stops_at still (between least most) here tt ms [] i h
      (ap (λ (b : Bool). b && leb (get_or ms i 0) most) (lt-leb least (get_or ms i 0) l))

  pub end_above : i < length ms → least ≤ get_or ms i 0 → most < get_or ms i 0 → end_at least most ms i ≡ i
  end_above h l m =
      stops_at still (between least most) here tt ms [] i h (rw (le-leb least (get_or ms i 0) l, lt-leb (get_or ms i 0) most m))

  pub end_on : i < length ms → least ≤ get_or ms i 0 → get_or ms i 0 ≤ most → end_at least most ms (i + 1) ≡ end_at least most ms i
  end_on h l m =
      sym (goes_on still (between least most) here tt ms [] i h (rw (le-leb least (get_or ms i 0) l, le-leb (get_or ms i 0) most m)))

  pub end_past : length ms ≤ i → end_at least most ms i ≡ i
  end_past h = ends_at still (between least most) here tt ms [] i h

  -- rows ys of a part, and then rows xs that are not of it
  module _ (vs : List ℕ) (ys xs : List Row) (e : drop i (paired ms vs) ≡ ys ++ xs) where
    pub end_after : T (all (passes (between least most)) ys) → Stops (between least most) xs → end_at least most ms i ≡ i + length ys
    unfolding run_at
    end_after t s =
        any_values (between least most) i i ms [] vs
        ∙ ap (run still (between least most) here tt i) e
        ∙ run_through still (between least most) here tt i ys xs t
        ∙ run-stop still (between least most) here _ (i + length ys) xs s

-- the rows of a part
pub part_is : (ms vs : List ℕ) (i j : ℕ) (ys xs : List Row) → drop i (paired ms vs) ≡ ys ++ xs → j ≡ i + length ys → stretch ms vs i j ≡ ys
part_is ms vs i j ys xs e p =
    let n : j - i ≡ length ys = omega arith in
    rw (e, n) (take-append_seam ys xs)

-- Preferences

pub condition_between : (c : Condition) → T (all (passes (between CLAUSE LACKS)) (condition_rows c))
condition_between = condition_passes (passes (between CLAUSE LACKS)) (λ v. tt) (λ v. tt) (λ v. tt)

module _ (ms vs : List ℕ) (at : ℕ) (q : Preference) (qs : List Preference) (e : drop at (paired ms vs) ≡ concat_map preference_rows (q ∷ qs)) where
  abbrev first : ℕ
  first = first_from ms at

  abbrev mid : ℕ
  mid = first_to ms at

  abbrev second : ℕ
  second = second_from ms at

  abbrev next : ℕ
  next = second_to ms at

  abbrev more : List Row
  more = concat_map preference_rows qs

  second_rows : Bool → List Row
  second_rows b = cond b (row SECOND 0 ∷ condition_rows q.second) []

  -- no row after the steps is one of them
  past_steps : (c : Condition) (b : Bool) → Stops (between STEPS STEPS) ((condition_rows c ++ second_rows b) ++ more)
  unfolding second_rows
  past_steps [] true = refl
  past_steps [] false = preferences_stop (between STEPS STEPS) (past_kinds (between STEPS STEPS) tt) qs
  past_steps (k ∷ c) b = refl

  first_is : first ≡ at + 1 + length (steps_rows q.kind)
  unfolding second_rows
  first_is =
      end_after STEPS STEPS ms (at + 1) vs (steps_rows q.kind) ((condition_rows q.first ++ second_rows (two_sided q.kind)) ++ more)
      (after_opening ms vs at q more e) (steps_pass (passes (between STEPS STEPS)) (λ v. tt) q.kind) (past_steps q.first (two_sided q.kind))

  after_head : drop first (paired ms vs) ≡ condition_rows q.first ++ (second_rows (two_sided q.kind) ++ more)
  unfolding second_rows
  after_head =
      ap (λ (n : ℕ). drop n (paired ms vs)) first_is
      ∙ after_steps ms vs at q more e
      ∙ append_assoc (condition_rows q.first) (second_rows (two_sided q.kind)) more

  stops : (b : Bool) → Stops (between CLAUSE LACKS) (second_rows b ++ more)
  unfolding second_rows
  stops true = refl
  stops false = preferences_stop (between CLAUSE LACKS) (past_kinds (between CLAUSE LACKS) tt) qs

  mid_is : mid ≡ first + length (condition_rows q.first)
  mid_is =
      end_after CLAUSE LACKS ms first vs (condition_rows q.first) (second_rows (two_sided q.kind) ++ more) after_head
      (condition_between q.first) (stops (two_sided q.kind))

  after_first : drop mid (paired ms vs) ≡ second_rows (two_sided q.kind) ++ more
  after_first =
      ap (λ (n : ℕ). drop n (paired ms vs)) mid_is
      ∙ drop_after first (paired ms vs) (condition_rows q.first) (second_rows (two_sided q.kind) ++ more) after_head

  -- the condition ys stands from row `second` on
  module _ (ys : Condition) (f : drop second (paired ms vs) ≡ condition_rows ys ++ more) where
    next_is : next ≡ second + length (condition_rows ys)
    next_is = end_after CLAUSE LACKS ms second vs (condition_rows ys) more f (condition_between ys) (stops_after)
      where
        stops_after : Stops (between CLAUSE LACKS) more
        stops_after = preferences_stop (between CLAUSE LACKS) (past_kinds (between CLAUSE LACKS) tt) qs

    second_part : stretch ms vs second next ≡ condition_rows ys
    second_part = part_is ms vs second next (condition_rows ys) more f next_is

    rest_after : drop next (paired ms vs) ≡ more
    rest_after = ap (λ (n : ℕ). drop n (paired ms vs)) next_is ∙ drop_after second (paired ms vs) (condition_rows ys) more f

  condition_stops : (c : Condition) → Stops (between SECOND SECOND) (condition_rows c ++ more)
  condition_stops [] = preferences_stop (between SECOND SECOND) (past_kinds (between SECOND SECOND) tt) qs
  condition_stops (k ∷ c) = refl

  after_second : (b : Bool) → two_sided q.kind ≡ b → drop second (paired ms vs) ≡ condition_rows (cond b q.second []) ++ more
  unfolding second_rows
  after_second true p =
      let f : drop mid (paired ms vs) ≡ (row SECOND 0 ∷ []) ++ (condition_rows q.second ++ more) = after_first ∙ rw p in
      let g : second ≡ mid + 1 =
      end_after SECOND SECOND ms mid vs (row SECOND 0 ∷ []) (condition_rows q.second ++ more) f tt (condition_stops q.second) in
      ap (λ (n : ℕ). drop n (paired ms vs)) g ∙ drop_after mid (paired ms vs) (row SECOND 0 ∷ []) (condition_rows q.second ++ more) f
  after_second false p =
      let f : drop mid (paired ms vs) ≡ [] ++ more = after_first ∙ rw p in
      let g : second ≡ mid + 0 = end_after SECOND SECOND ms mid vs [] more f tt (condition_stops []) in
      ap (λ (n : ℕ). drop n (paired ms vs)) (g ∙ add-zero mid) ∙ f

  pub located : at < length ms → Located ms vs at q qs (sides_at ms at)
  located h =
      record {
        mark = soft_at ms vs at q (concat_map preference_rows qs) e h;
        first = part_is ms vs first mid (condition_rows q.first) (second_rows (two_sided q.kind) ++ more) after_head mid_is;
        second = λ p. second_part q.second (after_second true p);
        rest = rest_after (cond (two_sided q.kind) q.second []) (after_second (two_sided q.kind) refl);
      }
