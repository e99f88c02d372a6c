use borrow.Author.Rules.{rules}
use Rattle.source.proofs.SourceSteps.{no_steps, one_step_more, all_steps}
use Rattle.source.proofs.parts.put_source.Goals as goal

pub loop-step-init : goal.loop-step-init
loop-step-init c = let a = c.args in (search rules, no_steps a.out.now a.steps.now a.actions)

pub loop-step-preserved : goal.loop-step-preserved
loop-step-preserved c =
    let a = c.args in (
      search rules,
      one_step_more a.out.now a.steps.now a.actions c.loop-step.out c.put_below-k.new.out c.loop-step.step-index c.loop-step.k c.put_below-k.result
          (search rules) c.loop-step.invariant.1 c.put_below-k.ensures.wrote,
    )

pub returns : goal.returns
returns c =
    let a = c.args in
    all_steps a.out.now a.steps.now a.actions c.loop-step.out c.loop-step.step-index c.loop-step.k (search rules) c.loop-step.invariant.1
