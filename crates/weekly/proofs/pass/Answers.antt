use borrow.Author.Rules.{rules}
use mathlib.Core.Path.{◌≡◌, refl, ap, subst⁻¹, ◌∙◌}
use Rattle.std.specs.Prelude.{Result, Err}
use Rattle.std.proofs.lemmas.Result.{err_from_is_err_and}
use Prim.Native.Nat.{◌+◌, ◌*◌, ◌-◌, ◌≤◌}
use native.Mathlib.Omega.{arith}
use lib.ListN.{length, take, drop}
use Rattle.task.specs.Answers.{as_sizes}
use Rattle.figures.specs.Plans.{Entry, count}
use Rattle.figures.proofs.Loop.{plan_at, read_head, plan_within, plan_lent}
use Rattle.task.specs.declared.Refusal.{Refusal}
use Rattle.figures.specs.Pass.{closing, CountingIn}
use Rattle.weekly.specs.declared.tally.Totals.{Totals}
use Rattle.weekly.specs.Answers.{as_tally, pass_as}
use Rattle.weekly.proofs.Reading.{head_fits}
use Rattle.weekly.proofs.Passing.{begun, passed, refused_at, taken_on}
use Rattle.weekly.proofs.pass.Goals as goal
use Rattle.weekly.proofs.pass.Goals.{After-count-n, After-entry_at-e}

-- the count, its limits, and where the plan of a turn ends
few : (c : After-count-n) → let f = c.args.plans.now in
    (c.count-n.result ≡ count f) × (count f ≤ 64) × (2 + 4 * count f ≤ length f)
few c =
    let fits = head_fits c.args.plans.now (read_head c.args.plans.now c.requires.1) in
    (c.count-n.ensures.0, fits.1, fits.2)

within : (c : After-entry_at-e) → 2 + 4 * c.count-n.result + (c.entry_at-e.result.start + c.entry_at-e.result.steps) ≤ length c.args.plans.now
within c =
    let few' : let f = c.args.plans.now in (c.count-n.result ≡ count f) × (count f ≤ 64) × (2 + 4 * count f ≤ length f) = let fits = head_fits c.args.plans.now (read_head c.args.plans.now c.requires.1) in
    (c.count-n.ensures.0, fits.1, fits.2) in
    let e = c.entry_at-e.ensures.0 in
    omega (
      arith,
      plan_within c.args.plans.now c.requires.1 c.loop-i.i (omega (arith, c.loop-i-test.true, few')),
      few',
      ap (λ (x : Entry). x.start) e,
      ap (λ (x : Entry). x.steps) e,
    )

pub loop-i-init : goal.loop-i-init
loop-i-init c =
    let a = c.args in
    begun a.file.now a.plans.now a.z.preferences

pub entry_at-e-requires : goal.entry_at-e-requires
entry_at-e-requires c = ((few (goal.at.entry_at-e-requires c).After-count-n).0, omega (arith, few (goal.at.entry_at-e-requires c).After-count-n), search rules)

pub overflow_add-to : goal.overflow_add-to
overflow_add-to c = let h = within (goal.at.overflow_add-to c).After-entry_at-e in search rules

pub overflow_cast-i : goal.overflow_cast-i
overflow_cast-i c = let h = few (goal.at.overflow_cast-i c).After-count-n in search rules

pub slice_bounds-take_plan-end : goal.slice_bounds-take_plan-end
slice_bounds-take_plan-end c = let h = within (goal.at.slice_bounds-take_plan-end c).After-entry_at-e in search rules

pub take_plan-requires : goal.take_plan-requires
take_plan-requires c =
    (c.requires.0, omega (arith, c.loop-i-test.true, few (goal.at.take_plan-requires c).After-count-n), c.loop-i.invariant.small)

pub returns-in_err-take_plan : goal.returns-in_err-take_plan
returns-in_err-take_plan c =
    let a = c.args in
    let at = goal.at.returns-in_err-take_plan c in
    let few' = few at.After-count-n in
    let f = a.plans.now in
    let e = c.entry_at-e.ensures.0 in
    let from = 2 + 4 * c.count-n.result + c.entry_at-e.result.start in
    let lent : take (from + c.entry_at-e.result.steps - from) (drop from f) ≡ plan_at f c.loop-i.i =
    plan_lent f c.requires.1 c.loop-i.i from (from + c.entry_at-e.result.steps)
    (omega (arith, few', ap (λ (x : Entry). x.start) e)) (omega (arith, ap (λ (x : Entry). x.steps) e)) in
    let r = err_from_is_err_and c.from_residual.result c.from_residual.ensures.1 in
    let told = r.1 ∙ ap Err r.2 in
    record {
      passed = ap (λ (x : Result Totals Refusal). closing a.z.preferences (pass_as x)) told
          ∙ refused_at a.file.now a.plans.now a.z.preferences (as_tally c.loop-i.t) c.loop-i.i c.loop-i.invariant
          (omega (arith, c.loop-i-test.true, few')) _ lent c.take_plan.result c.take_plan.new.t c.take_plan.ensures c.in_err-take_plan.field-0.0
          c.in_err-take_plan.was;
      counting_in = subst⁻¹ (λ (x : Result Totals Refusal). CountingIn a.z.preferences (pass_as x)) told tt;
    }

pub loop-i-preserved : goal.loop-i-preserved
loop-i-preserved c =
    let a = c.args in
    let at = goal.at.loop-i-preserved c in
    let few' = few at.After-count-n in
    let f = a.plans.now in
    let e = c.entry_at-e.ensures.0 in
    let from = 2 + 4 * c.count-n.result + c.entry_at-e.result.start in
    let lent : take (from + c.entry_at-e.result.steps - from) (drop from f) ≡ plan_at f c.loop-i.i =
    plan_lent f c.requires.1 c.loop-i.i from (from + c.entry_at-e.result.steps)
    (omega (arith, few', ap (λ (x : Entry). x.start) e)) (omega (arith, ap (λ (x : Entry). x.steps) e)) in
    taken_on a.file.now a.plans.now a.z.preferences (as_tally c.loop-i.t) c.loop-i.i c.loop-i.invariant
    (omega (arith, c.loop-i-test.true, few')) _ lent (as_sizes a.z) c.requires.0 refl c.take_plan.result _ c.take_plan.ensures
    _ c.in_ok-take_plan.was

pub returns : goal.returns
returns c =
    let a = c.args in record {
      passed = passed a.file.now a.plans.now a.z.preferences (as_tally c.loop-i.t) c.loop-i.i c.loop-i.invariant
          (omega (arith, c.loop-i-test.false, few (goal.at.returns c).After-count-n));
      counting_in = c.loop-i.invariant.counting;
    }
