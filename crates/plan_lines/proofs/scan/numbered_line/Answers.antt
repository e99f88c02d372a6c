use borrow.Author.Rules.{rules}
use mathlib.Core.Path.{sym, ◌∙◌}
use native.Mathlib.Omega.{arith}
use Rattle.std.proofs.lemmas.Option.{IfSome_then}
use Rattle.plan_lines.proofs.StepLines.{digit_more, line_closed}
use Rattle.plan_lines.proofs.scan.numbered_line.Goals as goal

pub returns-then-not-is_ascii_digit : goal.returns-then-not-is_ascii_digit
returns-then-not-is_ascii_digit c =
    IfSome_then c.closed_line.result c.closed_line.ensures
    (λ l. line_closed c.args.t.now c.loop-k.k c.loop-k.n l.step l.size c.loop-k.invariant)

pub loop-k-preserved : goal.loop-k-preserved
loop-k-preserved c =
    digit_more c.args.t.now c.loop-k.k c.loop-k.n (search rules) (omega (arith, c.loop-k-test.true))
    (sym c.is_ascii_digit.ensures.value ∙ c.if-not-is_ascii_digit.false) c.loop-k.invariant
