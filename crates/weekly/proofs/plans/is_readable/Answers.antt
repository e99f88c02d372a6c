use borrow.Author.Rules.{rules}
use borrow.Author.Tests.{not-true, not-false}
use mathlib.Core.Path.{◌≡◌, refl, sym, ap, ◌∙◌}
use mathlib.Core.Bool.{true}
use Prim.Native.Nat.{ℕ, ◌+◌, ◌*◌, ◌-◌}
use native.Mathlib.Omega.{arith}
use lib.Dec.{leb}
use lib.ListN.{length}
use Rattle.figures.specs.Plans.{count, headed}
use Rattle.weekly.specs.Answers.{as_entry}
use Rattle.weekly.proofs.Reading.{unheaded, head_fits, all_stand, past_the_end, next_stands}
use Rattle.weekly.proofs.plans.is_readable.Goals as goal
use Rattle.weekly.proofs.plans.is_readable.Goals.{After-stands, Else-not-is_headed}

head : (c : Else-not-is_headed) → headed c.args.plans.now ≡ true
head c = sym c.is_headed.ensures ∙ not-false _ c.if-not-is_headed.false-raw

pub returns-then-not-is_headed : goal.returns-then-not-is_headed
returns-then-not-is_headed c =
    let f = c.args.plans.now in
    sym (unheaded f (sym c.is_headed.ensures ∙ not-true _ c.if-not-is_headed.true-raw))

pub overflow_sub-room : goal.overflow_sub-room
overflow_sub-room c =
    let f = c.args.plans.now in
    omega (arith, head_fits f (head c), c.count-n.ensures.0)

pub loop-i-init : goal.loop-i-init
loop-i-init c = record { left = omega arith; same = refl }

pub entry_at-requires : goal.entry_at-requires
entry_at-requires c =
    let f = c.args.plans.now in
    let n = c.count-n.ensures.0 in
    (n, omega (arith, head_fits f (head (goal.at.entry_at-requires c).Else-not-is_headed), n), search rules)

-- the room for steps, by the file's count
room : (c : Else-not-is_headed) → let f = c.args.plans.now in
    length f - (2 + 4 * c.count-n.result) ≡ length f - (2 + 4 * count f)
room c =
    let f = c.args.plans.now in
    ap (λ (n : ℕ). length f - (2 + 4 * n)) c.count-n.ensures.0

-- whether the plan of a turn stands
test : (c : After-stands) → let f = c.args.plans.now in
    c.stands.result ≡ leb (c.entry_at.result.start + c.entry_at.result.steps) (length f - (2 + 4 * count f))
test c =
    let room' : let f = c.args.plans.now in length f - (2 + 4 * c.count-n.result) ≡ length f - (2 + 4 * count f) = let f = c.args.plans.now in
    ap (λ (n : ℕ). length f - (2 + 4 * n)) c.count-n.ensures.0 in
    c.stands.ensures ∙ ap (leb (c.entry_at.result.start + c.entry_at.result.steps)) room'

pub returns-then-not-stands : goal.returns-then-not-stands
returns-then-not-stands c =
    let f = c.args.plans.now in
    sym (past_the_end f (head (goal.at.returns-then-not-stands c).Else-not-is_headed) c.loop-i.i c.loop-i.invariant.same (omega (arith, c.loop-i-test.true, c.count-n.ensures.0))
    (as_entry c.entry_at.result) c.entry_at.ensures.0 (sym (test (goal.at.returns-then-not-stands c).After-stands) ∙ not-true _ c.if-not-stands.true-raw))

pub loop-i-preserved : goal.loop-i-preserved
loop-i-preserved c =
    let f = c.args.plans.now in
    record {
      left = search rules;
      same =
          next_stands f (head (goal.at.loop-i-preserved c).Else-not-is_headed) c.loop-i.i c.loop-i.invariant.same (omega (arith, c.loop-i-test.true, c.count-n.ensures.0))
          (as_entry c.entry_at.result) c.entry_at.ensures.0 (sym (test (goal.at.loop-i-preserved c).After-stands) ∙ not-false _ c.if-not-stands.false-raw);
    }

pub returns : goal.returns
returns c =
    let f = c.args.plans.now in
    sym (all_stand f (head (goal.at.returns c).Else-not-is_headed) c.loop-i.i c.loop-i.invariant.same (omega (arith, c.loop-i-test.false, c.count-n.ensures.0)))
