-- A file that is not accepted is refused as `settled` does, by `Settling`; any other goes on to `settle_on`.
use mathlib.Core.Path.{sym, ap, ◌∙◌}
use Rattle.task.specs.Answers.{answer as checked}
use Rattle.state.specs.Member.{bit}
use Rattle.settling.proofs.Settling.{turned_down}
use Rattle.settling.proofs.settle.Goals as goal

pub returns-in_default : goal.returns-in_default
returns-in_default c =
    let a = c.args in
    turned_down a.file.now a.cost (bit a.met) c.check-checked.result c.check-checked.ensures c.unwrap_err.result c.unwrap_err.ensures

pub settle_on-requires : goal.settle_on-requires
settle_on-requires c = sym c.check-checked.ensures ∙ ap checked c.in-Ok.is

pub returns : goal.returns
returns c = c.settle_on.ensures
