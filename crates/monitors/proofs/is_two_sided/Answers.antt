-- By the range of the mark.
use mathlib.Core.Bool.{and-false}
use borrow.Author.Tests.{le-leb, lt-leb, ne_eqb}
use borrow.Author.Rules.{rules}
use Rattle.monitors.proofs.is_two_sided.Goals as goal

pub returns-in_default : goal.returns-in_default
returns-in_default c = rw (lt-leb 14 c.args.mark (search rules), ne_eqb c.args.mark 18 c.in_default.in_default-own.rest.1)

pub returns-in_default-2 : goal.returns-in_default-2
returns-in_default-2 c = rw (lt-leb c.args.mark 15 (search rules), and-false, ne_eqb c.args.mark 18 c.in_default.in_default-own.rest.1)

pub returns-in-14-to-15 : goal.returns-in-14-to-15
returns-in-14-to-15 c = rw c.in-14-to-15.in-14-to-15-own.keys1

pub returns-in-14-to-15-2 : goal.returns-in-14-to-15-2
returns-in-14-to-15-2 c = let m = c.args.mark in rw (le-leb 14 m (search rules), le-leb m 15 (search rules))
