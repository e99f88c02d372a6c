use borrow.Author.Rules.{rules}
use mathlib.Core.Path.{◌≡◌, refl, ◌∙◌, subst}
use mathlib.Core.Bool.{true}
use mathlib.Core.List.{List}
use Prim.Native.Nat.{ℕ, ◌+◌, ◌-◌, ◌<◌, ◌≤◌}
use native.Mathlib.Omega.{arith}
use lib.ListN.{length, drop, get_or, length-drop}
use lib.Seq.{take_all}
use Rattle.plan_lines.specs.Scan.{is_opening, Begins}
use Rattle.plan_lines.proofs.Scanning.{passed_start, passed_on, count_start, count_at, count_after, write_at, write_after}
use Rattle.plan_lines.proofs.StepLines.{count_past, write_past, passed_past, not_empty}
use Rattle.plan_lines.proofs.scan.fill.Goals as goal
use Rattle.plan_lines.proofs.scan.fill.Goals.{In-Some}

pub loop-i-init : goal.loop-i-init
loop-i-init c =
    let t = c.args.text.now in
    rw c.at_line-s.ensures (search rules, passed_start, refl, refl, count_start t)

-- the line that was found
begins : (c : In-Some) → (is_opening c.loop-i.s.mode ≡ true) × Begins (drop c.loop-i.i c.args.text.now) c.in-Some.l.step c.in-Some.l.size
begins c =
    let t = c.args.text.now in
    let i = c.loop-i.i in
    let q = c.in-Some.ensures in
    (q.0, subst (λ (x : List ℕ). Begins x c.in-Some.l.step c.in-Some.l.size) (take_all (length t - i) (drop i t) (omega (arith, length-drop i t))) q.1)

some : (c : In-Some) → 0 < c.in-Some.l.size
some c = not_empty (drop c.loop-i.i c.args.text.now) c.in-Some.l.step c.in-Some.l.size (begins c).1

-- it ends within the text
inside : (c : In-Some) → c.loop-i.i + c.in-Some.l.size ≤ length c.args.text.now
inside c =
    let t = c.args.text.now in
    omega (arith, (begins c).1.inside, length-drop c.loop-i.i t, c.loop-i.invariant.0)

pub loop-i-preserved-in-Some : goal.loop-i-preserved-in-Some
loop-i-preserved-in-Some c =
    let t = c.args.text.now in
    let s = c.loop-i.s in
    let i = c.loop-i.i in
    let z = c.in-Some.l.size in
    rw c.at_line-s-in-Some.ensures (
      inside (goal.at.loop-i-preserved-in-Some c).In-Some,
      passed_past s i z (some (goal.at.loop-i-preserved-in-Some c).In-Some) c.loop-i.invariant.1,
      c.put_byte.auto.out ∙ c.loop-i.invariant.2,
      rw c.put_byte.ensures.area (write_past s t i c.in-Some.l.step z (begins (goal.at.loop-i-preserved-in-Some c).In-Some).0 (begins (goal.at.loop-i-preserved-in-Some c).In-Some).1 (search rules) c.loop-i.out) ∙ c.loop-i.invariant.3,
      count_past s t i c.in-Some.l.step z (begins (goal.at.loop-i-preserved-in-Some c).In-Some).0 (begins (goal.at.loop-i-preserved-in-Some c).In-Some).1 (search rules) ∙ c.loop-i.invariant.4,
    )

pub loop-i-preserved : goal.loop-i-preserved
loop-i-preserved c =
    let t = c.args.text.now in
    rw c.advanced-s.ensures (
      search rules,
      passed_on c.loop-i.s (get_or t c.loop-i.i 0) c.loop-i.i c.loop-i.invariant.1,
      c.put_byte-in_default.auto.out ∙ c.loop-i.invariant.2,
      rw c.put_byte-in_default.ensures (write_at c.loop-i.s t c.loop-i.i c.loop-i.out (search rules)) ∙ c.loop-i.invariant.3,
      count_at c.loop-i.s t c.loop-i.i (search rules) ∙ c.loop-i.invariant.4,
    )

pub returns : goal.returns
returns c =
    let t = c.args.text.now in
    let p = c.loop-i.invariant.1 in record {
      out_after = write_after c.loop-i.s t c.loop-i.i c.loop-i.out (search rules) ∙ c.loop-i.invariant.3;
      result_value = count_after c.loop-i.s t c.loop-i.i (search rules) ∙ c.loop-i.invariant.4;
      mode_in_bounds = (omega (arith, p.lines), omega (arith, p.steps));
    }
