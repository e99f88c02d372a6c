-- The answer is that of `walked` on an accepted file: a refusal or the run on the two parts of the file, by `Walking`.
use borrow.Author.Rules.{rules}
use mathlib.Core.Path.{ap, ◌∙◌}
use native.Mathlib.Omega.{arith}
use Rattle.task.specs.File.{task_of}
use Rattle.task.specs.Answers.{as_sizes}
use Rattle.task.proofs.Answered.{has_rows}
use Rattle.layout.proofs.Parts.{parts_spelled}
use Rattle.plan.specs.Answers.{given_as}
use Rattle.plan.specs.Walked.{refused}
use Rattle.plan.proofs.Walking.{too_long, unknown, actions_fit, run_on}
use Rattle.plan.proofs.walk_on.Goals as goal

pub returns-then-plan-gt-MAX_STEPS : goal.returns-then-plan-gt-MAX_STEPS
returns-then-plan-gt-MAX_STEPS c =
    let a = c.args in
    rw c.at.ensures (too_long a.file.now a.plan.now a.z c.requires (search rules))

pub returns-then-known-plan : goal.returns-then-known-plan
returns-then-known-plan c =
    let a = c.args in
    rw c.at-then-known-plan.ensures (ap (refused 11) c.steps_known-known.ensures
    ∙ unknown a.file.now a.plan.now a.z c.requires (search rules) (omega (arith, c.if-known-plan.true, c.steps_known-known.ensures)))

pub rows_of-requires : goal.rows_of-requires
rows_of-requires c = has_rows c.args.file.now (as_sizes c.args.z) c.requires

pub run-requires : goal.run-requires
run-requires c =
    let a = c.args in
    let z = as_sizes a.z in record {
      rows = (search rules, (task_of a.file.now, rw (c.rows_of.ensures.marks, c.rows_of.ensures.values) (parts_spelled a.file.now z c.requires)));
      marks_len_bound = rw c.rows_of.ensures.marks
          (actions_fit a.file.now a.plan.now a.z c.requires (search rules) (omega (arith, c.if-known-plan.false, c.steps_known-known.ensures)));
    }

pub returns : goal.returns
returns c =
    let a = c.args in
    run_on a.file.now a.plan.now a.z c.requires (search rules) (omega (arith, c.if-known-plan.false, c.steps_known-known.ensures))
    (given_as c.run.result) (rw (c.rows_of.ensures.marks, c.rows_of.ensures.values) at c.run.ensures)
