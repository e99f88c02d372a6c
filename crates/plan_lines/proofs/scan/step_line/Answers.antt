-- `(a` and a digit (`opened`), and then the rest of the line.
use borrow.Author.Rules.{rules}
use mathlib.Core.Path.{sym, ◌∙◌}
use Rattle.plan_lines.proofs.StepLines.{opened}
use Rattle.plan_lines.proofs.scan.step_line.Goals as goal

pub numbered_line-requires : goal.numbered_line-requires
numbered_line-requires c =
    (search rules, opened c.args.t.now (search rules) c.if-t-ne40.false c.if-t-ne97.false (sym c.is_ascii_digit.ensures.value ∙ c.if-not-is_ascii_digit.false))
