-- Marks in the two ranges open a soft preference, those under, between and over them do not: Values, a law for each.
use borrow.Author.Rules.{rules}
use mathlib.Core.Path.{sym}
use Rattle.task.proofs.Values.{preference, timed, under, between, over}
use Rattle.task.proofs.opens_soft.Goals as goal

pub returns-in-10-to-15 : goal.returns-in-10-to-15
returns-in-10-to-15 c = sym (preference c.args.mark (search rules) (search rules))

pub returns-in-10-to-15-2 : goal.returns-in-10-to-15-2
returns-in-10-to-15-2 c = sym (timed c.args.mark (search rules) (search rules))

pub returns-in_default : goal.returns-in_default
returns-in_default c = sym (under c.args.mark (search rules))

pub returns-in_default-2 : goal.returns-in_default-2
returns-in_default-2 c = sym (between c.args.mark (search rules) (search rules))

pub returns-in_default-3 : goal.returns-in_default-3
returns-in_default-3 c = sym (over c.args.mark (search rules))
