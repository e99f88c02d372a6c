use mathlib.Core.Path.{◌≡◌, sym, ap, subst, ◌∙◌}
use mathlib.Core.Bool.{true, false}
use mathlib.Core.List.{List}
use Prim.Native.Nat.{ℕ, ◌+◌, ◌-◌, ◌<◌}
use native.Mathlib.Nat.{add-zero}
use native.Mathlib.Omega.{arith}
use lib.ListN.{length, get_or, take, drop, length-drop}
use lib.Seq.{take_all, get_or-drop}
use Rattle.meaning.specs.Meaning.{State as Facts}
use Rattle.state.specs.Member.{member}
use Rattle.reading.specs.Conditions.{reading, evaluate_at}
use Rattle.reading.proofs.Reader.{none_past, one_past}
use Rattle.reading.proofs.conditions.past_false.Goals as goal

-- the rows from `at` on are those that the slice has
all_marks : (ms : List ℕ) (at : ℕ) → take (length ms - at) (drop at ms) ≡ drop at ms
all_marks ms at = take_all (length ms - at) (drop at ms) (omega (arith, length-drop at ms))

mark_at : (ms : List ℕ) (at n : ℕ) → get_or (take (length ms - at) (drop at ms)) n 0 ≡ get_or ms (at + n) 0
mark_at ms at n = ap (λ (l : List ℕ). get_or l n 0) (all_marks ms at) ∙ get_or-drop at ms n 0

many : (ms : List ℕ) (at : ℕ) → length (take (length ms - at) (drop at ms)) ≡ length ms - at
many ms at = ap length (all_marks ms at) ∙ length-drop at ms

pub loop-n-init : goal.loop-n-init
loop-n-init c =
    let a = c.args in
    (omega (arith, c.requires), λ m. rw (add-zero a.at) (none_past (member (record { low = a.low; high = a.high })) a.rows.now.marks.now a.rows.now.values.now a.at m))

pub returns-then-mark-false_mark : goal.returns-then-mark-false_mark
returns-then-mark-false_mark c =
    let a = c.args in record {
      lower_bound = (omega arith, c.loop-n.invariant.0);
      past_false = record {
        looks = c.loop-n.invariant.1;
        stops = λ h e. c.if-mark-false_mark.true (mark_at a.rows.now.marks.now a.at c.loop-n.n ∙ e ∙ sym (c.false_mark.ensures ∙ rw c.value.ensures));
      };
    }

pub loop-n-preserved : goal.loop-n-preserved
loop-n-preserved c =
    let a = c.args in
    let ms = a.rows.now.marks.now in
    let vs = a.rows.now.values.now in
    let s : Facts = member (record { low = a.low; high = a.high }) in
    let i : ℕ = a.at + c.loop-n.n in
    let inside : i < length ms = omega (arith, c.loop-n-test.true, many ms a.at) in
    let e : i + 1 ≡ a.at + (c.loop-n.n + 1) = omega arith in (
      omega arith,
      λ m. subst (λ (j : ℕ). evaluate_at s (reading true false m) ms vs a.at ≡ evaluate_at s (reading true false (m + (j - a.at))) ms vs j) e
          (one_past s ms vs a.at i m (omega arith) (c.loop-n.invariant.1 m) inside
          (sym (mark_at ms a.at c.loop-n.n) ∙ c.if-mark-false_mark.false ∙ c.false_mark.ensures ∙ rw c.value.ensures)),
    )

pub returns : goal.returns
returns c =
    let a = c.args in
    let at_end : a.at + c.loop-n.n ≡ length a.rows.now.marks.now = omega (arith, c.loop-n-test, many a.rows.now.marks.now a.at, c.loop-n.invariant.0) in record {
      lower_bound = (c.requires, omega arith);
      past_false = record { looks = λ m. rw at_end at c.loop-n.invariant.1 m; stops = λ h e. absurd (omega (arith, h)) };
    }
