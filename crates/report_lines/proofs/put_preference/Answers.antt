-- Number, kind, weight and outcome are written in turn, a blank after each and a newline at the end: then of Writing.
use Rattle.text.proofs.Writing.{then}
use Rattle.report_lines.specs.Lines.{preference_line}
use borrow.Author.Rules.{rules}
use Rattle.report_lines.proofs.put_preference.Goals as goal

pub returns : goal.returns
unfolding preference_line
returns c =
    let kinds = then (then c.put_decimal-a.ensures.wrote c.put_byte-b.ensures) c.put_kind-c.ensures.wrote in
    let weights = then (then kinds c.put_byte-d.ensures) c.put_decimal-e.ensures.wrote in
    record {
      wrote = then (then (then weights c.put_byte-f.ensures) (rw c.outcome_word.ensures.word at c.put_bytes-g.ensures)) c.put_byte.ensures;
      upper_bound = search rules;
    }
