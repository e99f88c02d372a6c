-- The kind of a preference by its mark.
use mathlib.Core.Path.{◌≡◌, refl}
use mathlib.Core.Bool.{Bool, true, false, cond, ◌&&◌}
use Prim.Native.Nat.{ℕ, ◌+◌, ◌≤◌}
use native.Mathlib.Omega.{arith}
use lib.Dec.{leb}
use lib.ListN.{length}
use Rattle.task.specs.Marks.{WITHIN, ALWAYS_WITHIN}
use Rattle.meaning.specs.Task.{Kind, always, sometime, at_end, at_most_once, sometime_before, sometime_after, within, always_within, two_sided}
use Rattle.task.specs.TaskRows.{kind_mark, opening_mark, steps_rows}
use Rattle.task.proofs.Positions.{past_kinds}
use Rattle.reading.specs.Conditions.{in_condition}
use Rattle.reading.specs.Effects.{in_effects}
use Rattle.monitors.specs.Monitors.{head_rows, is_two_sided}

pub head_rows_lem : (k : Kind) → head_rows (kind_mark k) ≡ 1 + length (steps_rows k)
head_rows_lem always = refl
head_rows_lem sometime = refl
head_rows_lem at_end = refl
head_rows_lem at_most_once = refl
head_rows_lem sometime_before = refl
head_rows_lem sometime_after = refl
head_rows_lem (within t) = refl
head_rows_lem (always_within t) = refl

pub head_most : (m : ℕ) → head_rows m ≤ 2
head_most m = go (leb WITHIN m && leb m ALWAYS_WITHIN)
  where
    go : (b : Bool) → cond b 2 1 ≤ 2
    go true = omega arith
    go false = omega arith

pub head_least : (m : ℕ) → 1 ≤ head_rows m
head_least m = go (leb WITHIN m && leb m ALWAYS_WITHIN)
  where
    go : (b : Bool) → 1 ≤ cond b 2 1
    go true = omega arith
    go false = omega arith

pub side_count : (k : Kind) → is_two_sided (kind_mark k) ≡ two_sided k
side_count always = refl
side_count sometime = refl
side_count at_end = refl
side_count at_most_once = refl
side_count sometime_before = refl
side_count sometime_after = refl
side_count (within t) = refl
side_count (always_within t) = refl

-- Marks after a condition, and after effects

pub kind_past : (h : Bool) (k : Kind) → in_condition (opening_mark h k) ≡ false
kind_past = past_kinds in_condition tt

pub kind_past_effects : (h : Bool) (k : Kind) → in_effects (opening_mark h k) ≡ false
kind_past_effects = past_kinds in_effects tt
