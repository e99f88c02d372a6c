-- The weights of met preferences and of the others: what the loop keeps, and what it comes to on a task's rows.
use mathlib.Core.Path.{◌≡◌, refl, sym, ap, ap₂, ◌∙◌}
use mathlib.Core.Bool.{Bool, true, false, not, cond}
use mathlib.Core.List.{List, [], ◌∷◌}
use Prim.Native.Nat.{ℕ, zero, suc, ◌+◌, ◌-◌, ◌*◌, ◌≤◌, ◌<◌}
use native.Mathlib.Nat.{add-zero, zero-add, add_assoc}
use native.Mathlib.Omega.{arith}
use lib.Bits.{bit_or, or_add_and, and_le_l, and_le_r}
use lib.Dec.{ltb}
use lib.IntN.{ℤ, pos, ◌-ℤ◌}
use lib.ListN.{length, get_or}
use borrow.Author.Tests.{ltb-true, ltb-false}
use Rattle.meaning.specs.Task.{Preference, Task}
use Rattle.task.specs.Marks.{GOAL}
use Rattle.task.specs.TaskRows.{Row, row, task_rows}
use Rattle.task.specs.File.{paired, opens_preference}
use Rattle.task.specs.Rows.{value_at}
use Rattle.task.proofs.Reading.{goes_on}
use Rattle.task.proofs.Values.{under, below_hard}
use Rattle.settling.specs.Settled.{worth, weight_of, worth_of}
use Rattle.layout.specs.Counting.{counting, count_at}
use Rattle.settling.specs.Amounts.{Weighed, nothing, weighed, as_weights}
use Rattle.settling.specs.declared.amounts.Weights.{Weights}
use Rattle.layout.proofs.Counting.{count_all, task_counted}

-- what holds before row i is read: each weight fits 32 bits
pub record Weighing (ms vs : List ℕ) (met : ℕ → Bool) (t : Weights) (i : ℕ) : Type 0 where
  pub rows_left : i ≤ length ms
  pub few : t.number ≤ i
  pub little_met : t.met ≤ i * 4294967295
  pub little_missed : t.missed ≤ i * 4294967295
  pub same : count_at (weighed met) (as_weights t) ms vs i ≡ count_at (weighed met) nothing ms vs 0

-- Rows that are passed by

-- what holds before row i, with the rows from row `from` on passed by
pub record Passing (ms : List ℕ) (from i : ℕ) : Type 0 where
  pub rows_left : i ≤ length ms
  pub begun : from ≤ i
  pub others : (k : ℕ) → from ≤ k → k < i → opens_preference (get_or ms k 0) ≡ false

left_within : (a b : ℕ) → a ≤ bit_or a b
left_within a b = omega (arith, or_add_and a b, and_le_r a b)

right_within : (a b : ℕ) → b ≤ bit_or a b
right_within a b = omega (arith, or_add_and a b, and_le_l a b)

-- none of four marks from row i on is greater than their bits
module _ (ms : List ℕ) (i : ℕ) where
  abbrev two : ℕ
  two = bit_or (get_or ms i 0) (get_or ms (i + 1) 0)

  abbrev three : ℕ
  three = bit_or two (get_or ms (i + 2) 0)

  abbrev four : ℕ
  four = bit_or three (get_or ms (i + 3) 0)

  two_within : two ≤ four
  two_within = omega (arith, left_within two (get_or ms (i + 2) 0), left_within three (get_or ms (i + 3) 0))

  pub four_within : (k : ℕ) → i ≤ k → k < i + 4 → get_or ms k 0 ≤ four
  four_within k h l = go (k - i) (omega arith) (omega arith)
    where
      go : (d : ℕ) → k ≡ i + d → d < 4 → get_or ms k 0 ≤ four
      go zero e h = let f : k ≡ i = omega arith in rw f (omega (arith, left_within (get_or ms i 0) (get_or ms (i + 1) 0), two_within))
      go (suc zero) e h = let f : k ≡ i + 1 = omega arith in rw f (omega (arith, right_within (get_or ms i 0) (get_or ms (i + 1) 0), two_within))
      go (suc (suc zero)) e h =
          let f : k ≡ i + 2 = omega arith in
          rw f (omega (arith, right_within two (get_or ms (i + 2) 0), left_within three (get_or ms (i + 3) 0)))
      go (suc (suc (suc zero))) e h = let f : k ≡ i + 3 = omega arith in rw f (right_within three (get_or ms (i + 3) 0))
      go (suc (suc (suc (suc d)))) e h = absurd (omega arith)

-- a mark below GOAL opens none
low_opens_none : (m : ℕ) → m < GOAL → opens_preference m ≡ false
low_opens_none m h = rw (under m (omega arith), below_hard m (omega arith))

-- eight marks more, none greater than a or than b
pub eight_more : (ms : List ℕ) (from i a b : ℕ) → Passing ms from i → i + 8 ≤ length ms
    → ((k : ℕ) → i ≤ k → k < i + 4 → get_or ms k 0 ≤ a) → ((k : ℕ) → i + 4 ≤ k → k < i + 4 + 4 → get_or ms k 0 ≤ b)
    → bit_or a b < GOAL → Passing ms from (i + 8)
eight_more ms from i a b p h fa fb l = record { rows_left = h; begun = omega (arith, p.begun); others = passed }
  where
    low : (k : ℕ) → i ≤ k → k < i + 8 → (below : Bool) → ltb k (i + 4) ≡ below → get_or ms k 0 < GOAL
    low k x y true e = omega (arith, fa k x (ltb-true k (i + 4) e), left_within a b)
    low k x y false e = omega (arith, fb k (ltb-false k (i + 4) e) (omega arith), right_within a b)

    passed : (k : ℕ) → from ≤ k → k < i + 8 → opens_preference (get_or ms k 0) ≡ false
    passed k x y = go (ltb k i) refl
      where
        go : (before : Bool) → ltb k i ≡ before → opens_preference (get_or ms k 0) ≡ false
        go true e = p.others k x (ltb-true k i e)
        go false e = low_opens_none (get_or ms k 0) (low k (ltb-false k i e) y (ltb k (i + 4)) refl)

-- so they count nothing
module _ {W : Type 0} (one : W → Row → W) (w : W) (ms vs : List ℕ) where
  pub passed_by : (n i r : ℕ) → i + n ≡ r → r ≤ length ms → ((k : ℕ) → i ≤ k → k < r → opens_preference (get_or ms k 0) ≡ false)
      → count_at one w ms vs r ≡ count_at one w ms vs i
  passed_by zero i r e h none = ap (count_at one w ms vs) (sym e ∙ add-zero i)
  passed_by (suc n) i r e h none =
      passed_by n (i + 1) r (omega arith) h (λ k x y. none k (omega arith) y)
      ∙ sym (goes_on (counting one) (λ (m : ℕ). true) (λ (u : W) (j : ℕ). u) w ms vs i (omega arith) refl
      ∙ ap (λ (b : Bool). count_at one (cond b (one w (row (get_or ms i 0) (value_at vs i))) w) ms vs (i + 1)) (none i (omega arith) (omega arith)))

module _ (met : ℕ → Bool) where
  -- one preference more, met or not
  abbrev one : Weighed → Bool → ℕ → Weighed
  one t b w =
      cond b (record { number = t.number + 1; met = t.met + w; missed = t.missed })
      (record { number = t.number + 1; met = t.met; missed = t.missed + w })

  one_number : (t : Weighed) (b : Bool) (w : ℕ) → (one t b w).number ≡ t.number + 1
  one_number t true w = refl
  one_number t false w = refl

  -- either sum: a preference adds its weight where it is of the chosen ones, met or missed
  module _ (part : Weighed → ℕ) (chosen : Bool → Bool) (adds : (t : Weighed) (b : Bool) (w : ℕ) → part (one t b w) ≡ part t + cond (chosen b) w 0) where
    summed : (t : Weighed) (qs : List Preference) → part (count_all (weighed met) t qs) ≡ part t + weight_of (λ (k : ℕ). chosen (met k)) t.number qs
    summed t [] = sym (add-zero (part t))
    summed t (q ∷ qs) =
        let b : Bool = met t.number in
        summed (one t b q.weight) qs
        ∙ (λ i. adds t b q.weight i + weight_of (λ (k : ℕ). chosen (met k)) (one_number t b q.weight i) qs)
        ∙ add_assoc (part t) (cond (chosen b) q.weight 0) (weight_of (λ (k : ℕ). chosen (met k)) (t.number + 1) qs)

  met_sum_lem : (qs : List Preference) → (count_all (weighed met) nothing qs).met ≡ weight_of met 0 qs
  met_sum_lem qs = summed (λ (t : Weighed). t.met) (λ (b : Bool). b) adds nothing qs ∙ zero-add (weight_of met 0 qs)
    where
      adds : (t : Weighed) (b : Bool) (w : ℕ) → (one t b w).met ≡ t.met + cond b w 0
      adds t true w = refl
      adds t false w = sym (add-zero t.met)

  abbrev others : ℕ → Bool
  others k = not (met k)

  missed-sum : (qs : List Preference) → (count_all (weighed met) nothing qs).missed ≡ weight_of others 0 qs
  missed-sum qs = summed (λ (t : Weighed). t.missed) not adds nothing qs ∙ zero-add (weight_of others 0 qs)
    where
      adds : (t : Weighed) (b : Bool) (w : ℕ) → (one t b w).missed ≡ t.missed + cond (not b) w 0
      adds t true w = sym (add-zero t.missed)
      adds t false w = refl

  -- so the amounts are those of the definition
  pub worth_is : (t : Task) (ms vs : List ℕ) → paired ms vs ≡ task_rows t → (w : Weights) → as_weights w ≡ count_at (weighed met) nothing ms vs 0
      → (cost metric : ℕ) (utility : ℤ) → (metric ≡ cost + w.missed) × (utility ≡ pos w.met -ℤ pos cost)
      → worth metric utility ≡ worth_of t cost met
  worth_is t ms vs e w counted cost metric utility (m, u) =
      let all : as_weights w ≡ count_all (weighed met) nothing t.preferences = counted ∙ task_counted (weighed met) nothing ms vs t e in
      let missed_part : w.missed ≡ weight_of others 0 t.preferences =
      ap (λ (x : Weighed). x.missed) all ∙ missed-sum t.preferences in
      let met_part : w.met ≡ weight_of met 0 t.preferences =
      ap (λ (x : Weighed). x.met) all ∙ met_sum_lem t.preferences in
      ap₂ worth (m ∙ ap (λ (n : ℕ). cost + n) missed_part) (u ∙ ap (λ (n : ℕ). pos n -ℤ pos cost) met_part)
