-- The line is two words, the rule's number and a newline: put_number's contract.
use Rattle.report_lines.specs.Lines.{rule_missed_line}
use Rattle.report_lines.proofs.put_rule_missed.Goals as goal

pub returns : goal.returns
unfolding rule_missed_line
returns c = c.put_number.ensures.wrote
