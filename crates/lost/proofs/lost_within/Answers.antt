-- A refusal of the list, or the list followed on the two parts of the file, by `Losing`.
use borrow.Author.Rules.{rules}
use mathlib.Core.Path.{ap, ◌∙◌}
use Prim.Native.Nat.{◌+◌, ◌*◌, ◌≤◌}
use native.Mathlib.Omega.{arith}
use Rattle.task.specs.File.{task_of}
use Rattle.task.specs.Answers.{as_sizes}
use Rattle.task.specs.Limits.{MAX_ACTIONS}
use Rattle.task.proofs.Answered.{Limited, limited, has_rows}
use Rattle.lost_run.specs.Run.{run_as}
use Rattle.lost.specs.Answered.{refused}
use Rattle.lost.proofs.Losing.{accepted, few_actions, too_long, unknown, source, actions_fit, run_on}
use Rattle.lost.proofs.lost_within.Goals as goal
use Rattle.lost.proofs.lost_within.Goals.{Else-steps-gt-MAX_STEPS}

-- the translation's actions are few, too
parts : (c : Else-steps-gt-MAX_STEPS) → let a = c.args in
    Limited a.file.now (as_sizes a.z) × (a.z.actions + 2 * a.z.preferences + 1 ≤ MAX_ACTIONS)
parts c =
    let a = c.args in
    let file = a.file.now in
    let steps = a.steps.now in
    let z = as_sizes a.z in
    (limited file z (accepted file steps z c.requires), few_actions file steps z c.requires)

pub returns-then-steps-gt-MAX_STEPS : goal.returns-then-steps-gt-MAX_STEPS
returns-then-steps-gt-MAX_STEPS c =
    rw c.at.ensures (too_long c.args.file.now c.args.steps.now (as_sizes c.args.z) c.requires (search rules))

pub overflow_mul-actions : goal.overflow_mul-actions
overflow_mul-actions c = let h = parts (goal.at.overflow_mul-actions c).Else-steps-gt-MAX_STEPS in search rules

pub overflow_add-actions : goal.overflow_add-actions
overflow_add-actions c = let h = parts (goal.at.overflow_add-actions c).Else-steps-gt-MAX_STEPS in search rules

pub overflow_add-actions-2 : goal.overflow_add-actions-2
overflow_add-actions-2 c = let h = parts (goal.at.overflow_add-actions-2 c).Else-steps-gt-MAX_STEPS in search rules

pub returns-then-known-steps : goal.returns-then-known-steps
returns-then-known-steps c =
    rw c.at-then-known-steps.ensures (ap (refused 11) c.steps_known-known.ensures
    ∙ unknown c.args.file.now c.args.steps.now (as_sizes c.args.z) c.requires (search rules)
    (omega (arith, c.if-known-steps.true, c.steps_known-known.ensures)))

pub rows_of-requires : goal.rows_of-requires
rows_of-requires c =
    let a = c.args in
    has_rows a.file.now (as_sizes a.z) (accepted a.file.now a.steps.now (as_sizes a.z) c.requires)

pub run_list-requires : goal.run_list-requires
run_list-requires c =
    let file = c.args.file.now in
    let steps = c.args.steps.now in
    let z = as_sizes c.args.z in record {
      rows = (search rules, rw c.rows_of.ensures.marks (actions_fit file steps z c.requires (search rules) (omega (arith, c.if-known-steps.false, c.steps_known-known.ensures))));
      source = (
        task_of file,
        rw (c.rows_of.ensures.marks, c.rows_of.ensures.values)
            (source file steps z c.requires (search rules) (omega (arith, c.if-known-steps.false, c.steps_known-known.ensures))),
      );
    }

pub returns : goal.returns
returns c =
    run_on c.args.file.now c.args.steps.now (as_sizes c.args.z) c.requires (search rules) (omega (arith, c.if-known-steps.false, c.steps_known-known.ensures))
    (run_as c.run_list.result) (rw (c.rows_of.ensures.marks, c.rows_of.ensures.values) at c.run_list.ensures)
