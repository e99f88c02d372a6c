-- Where the cost is the metric put_number writes the line; else cost, metric and newline are written in turn: then of Writing.
use borrow.Author.Rules.{rules}
use borrow.Author.Tests.{eq-eqb, ne_eqb}
use native.Mathlib.Omega.{arith}
use Rattle.text.proofs.Writing.{then}
use Rattle.paid_line.specs.Paid.{paid_line, otherwise_line}
use Rattle.paid_line.proofs.put_solved.Goals as goal

pub returns-then-cost-worth : goal.returns-then-cost-worth
unfolding paid_line
returns-then-cost-worth c =
    let a = c.args in
    record {
      wrote = rw (eq-eqb a.cost a.worth (omega (arith, c.if-cost-worth.true))) c.put_number.ensures.wrote;
      upper_bound = search rules;
    }

pub returns : goal.returns
unfolding otherwise_line
returns c =
    let a = c.args in record {
      wrote = rw (ne_eqb a.cost a.worth (omega (arith, c.if-cost-worth.false)))
          (then (then c.put_number-a.ensures.wrote c.put_decimal-b.ensures.wrote) c.put_byte.ensures);
      upper_bound = search rules;
    }
