-- Words, metric, utility and newline are written in turn (then of Writing); the utility is the number of its bits: to_z-of_z.
use mir.Syntax.{w64}
use mir.ValLaws.{to_z-of_z}
use Rattle.text.proofs.Writing.{then}
use Rattle.text.specs.Text.{integer}
use Rattle.report_lines.specs.Lines.{amounts_line}
use Rattle.report_lines.proofs.put_amounts.Goals as goal

pub returns : goal.returns
unfolding amounts_line
returns c =
    let utility = to_z-of_z w64 c.args.utility c.ranges.utility in
    then (then {ys = integer c.args.utility} c.put_number-a.ensures.wrote (rw utility at c.put_integer-b.ensures.wrote)) c.put_byte.ensures
