-- The steps, and then the cost: `with_cost` of Written.
use native.Mathlib.Omega.{arith}
use Rattle.planned.proofs.Written.{with_cost}
use Rattle.planned.proofs.put.Goals as goal

pub put_number-requires : goal.put_number-requires
put_number-requires c =
    omega (arith, c.put_plan-k.ensures.upper_bound, c.requires)

pub returns : goal.returns
returns c =
    let a = c.args in
    with_cost a.plan.now a.cost a.out.now c.put_plan-k.new.out c.put_number.new.out c.put_plan-k.result c.put_number.result
    c.put_plan-k.ensures.filled c.put_number.ensures.wrote
