use borrow.Author.Rules.{rules}
use Rattle.plan_lines.proofs.Printing.{no_lines, one_line_more}
use Rattle.plan_lines.proofs.print.put_plan.Goals as goal

pub loop-step-init : goal.loop-step-init
loop-step-init c = let a = c.args in (search rules, no_lines a.out.now a.plan.now)

pub loop-step-preserved : goal.loop-step-preserved
loop-step-preserved c =
    let a = c.args in (
      search rules,
      one_line_more a.out.now a.plan.now c.loop-step.out c.put_step-k.new.out c.loop-step.step-index c.loop-step.k c.put_step-k.result (search rules) c.loop-step.invariant.1 c.put_step-k.ensures.wrote,
    )
