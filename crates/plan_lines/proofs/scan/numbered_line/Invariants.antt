-- Digit by digit the number up to byte k (`digit_more`), and then the end of the line (`line_closed`).
use Rattle.plan_lines.specs.Scan.{Numbered}
use Rattle.plan_lines.proofs.scan.numbered_line.Given as goal

abbrev pub invariant-loop-k : goal.invariant-loop-k
invariant-loop-k l = Numbered l.t l.k l.n
