-- The word of a hard preference, or nothing, and then the kind of the soft mark are written in turn: then of Writing.
use Rattle.text.proofs.Writing.{then}
use borrow.Author.Rules.{rules}
use Rattle.report_lines.proofs.put_kind.Goals as goal

pub returns : goal.returns
returns c =
    rw (← c.soft_mark.ensures, ← c.kind_of.ensures.result_value, ← c.opens_hard.ensures) (record {
      wrote = then (rw c.hard_word.ensures.word at c.put_bytes-a.ensures) (rw c.kind_word.ensures.word at c.put_bytes.ensures);
      upper_bound = search rules;
    })
