-- The word and the digits, and then the other word: then of Writing.
use mathlib.Core.List.{append_assoc}
use borrow.Author.Rules.{rules}
use Rattle.text.specs.Text.{decimal}
use Rattle.text.proofs.Writing.{then}
use Rattle.text.proofs.put_number.Goals as goal

pub returns : goal.returns
returns c =
    let a = c.args in
    record {
      wrote = rw (append_assoc a.before.now (decimal a.n) a.after.now) at (then c.put_labelled-a.ensures.wrote c.put_bytes.ensures);
      upper_bound = search rules;
    }
