-- A file that is not accepted is refused as `walked` does, by `Walking`; any other goes on to `walk_on`.
use mathlib.Core.Path.{sym, ap, ◌∙◌}
use Rattle.task.specs.Answers.{answer as checked}
use Rattle.plan.proofs.Walking.{turned_down}
use Rattle.plan.proofs.walk.Goals as goal

pub returns-in_default : goal.returns-in_default
returns-in_default c =
    let a = c.args in
    turned_down a.file.now a.plan.now c.check-checked.result c.check-checked.ensures c.unwrap_err.result c.unwrap_err.ensures

pub walk_on-requires : goal.walk_on-requires
walk_on-requires c = sym c.check-checked.ensures ∙ ap checked c.in-Ok.is

pub returns : goal.returns
returns c = c.walk_on.ensures
