-- The line is a word, the step's number and a newline: put_number's contract.
use Rattle.report_lines.specs.Lines.{stopped_line}
use Rattle.report_lines.proofs.put_stopped.Goals as goal

pub returns : goal.returns
unfolding stopped_line
returns c = c.put_number.ensures.wrote
