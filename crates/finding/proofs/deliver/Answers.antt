-- By how the search ended: `Ended`.
use native.Mathlib.Omega.{arith}
use Rattle.finding.proofs.Ended.{few, placed, inside, short, delivered, none_few, full_few, none_delivered, full_delivered}
use Rattle.finding.proofs.deliver.Goals as goal

pub put_plan-steps-requires : goal.put_plan-steps-requires
put_plan-steps-requires c =
    let p = c.requires.1 in
    let w = c.args.words.now in
    let n = few w c.args.e p.0 p.1 p.2 c.in-Found.i c.in-Found.n c.in-Found.is in record {
      place_in = record {
        below = placed w c.args.e p.0 p.1 p.2 c.in-Found.i c.in-Found.n c.in-Found.is;
        there = record { few = n; room = omega (arith, n, p.2.long) };
        inside = inside w c.args.e p.0 p.1 p.2 c.in-Found.i c.in-Found.n c.in-Found.is;
      };
      place_in_bounds = omega (arith, short w c.args.e p.0 p.1 p.2 c.in-Found.i c.in-Found.n c.in-Found.is, c.requires.0);
    }

pub cost_at-cost-requires : goal.cost_at-cost-requires
cost_at-cost-requires c =
    let p = c.requires.1 in
    let w = c.args.words.now in
    let h = placed w c.args.e p.0 p.1 p.2 c.in-Found.i c.in-Found.n c.in-Found.is in
    let n = few w c.args.e p.0 p.1 p.2 c.in-Found.i c.in-Found.n c.in-Found.is in
    record { few = omega (arith, h, n); room = omega (arith, h, n, p.2.long) }

pub returns-in-Found : goal.returns-in-Found
returns-in-Found c =
    let p = c.requires.1 in
    let w = c.args.words.now in record {
      bounded = (
        omega (arith, c.put_plan-steps.ensures.value, short w c.args.e p.0 p.1 p.2 c.in-Found.i c.in-Found.n c.in-Found.is),
        few w c.args.e p.0 p.1 p.2 c.in-Found.i c.in-Found.n c.in-Found.is,
      );
      result_after = λ t limit E. delivered w c.args.e t limit E c.in-Found.i c.in-Found.n c.in-Found.is c.put_plan-steps.result c.cost_at-cost.result c.args.plan.now c.put_plan-steps.new.plan
          c.put_plan-steps.ensures.value c.cost_at-cost.ensures c.put_plan-steps.ensures.plan_after;
    }

pub returns-in-NoPlan : goal.returns-in-NoPlan
returns-in-NoPlan c =
    let p = c.requires.1 in
    let w = c.args.words.now in
    record {
      bounded = none_few w c.args.e p.0 p.1 p.2 c.in-NoPlan.n c.in-NoPlan.is;
      result_after = λ t limit E. none_delivered w c.args.e t limit E c.in-NoPlan.n c.in-NoPlan.is c.args.plan.now;
    }

pub returns-in-Full : goal.returns-in-Full
returns-in-Full c =
    let p = c.requires.1 in
    let w = c.args.words.now in
    record {
      bounded = full_few w c.args.e p.0 p.1 p.2 c.in-Full.n c.in-Full.is;
      result_after = λ t limit E. full_delivered w c.args.e t limit E c.in-Full.n c.in-Full.is c.args.plan.now;
    }
