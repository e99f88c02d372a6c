-- A word, the digits and a word are written in turn (then of Writing), and make the text: not_wrote of Listing.
use Rattle.text.proofs.Writing.{then}
use Rattle.pddl_parts.proofs.Listing.{not_wrote}
use borrow.Author.Rules.{rules}
use Rattle.pddl_parts.proofs.conditions.put_denied.Goals as goal

pub returns : goal.returns
returns c =
    let a = c.args in
    record {
      wrote = not_wrote a.n (then c.put_bytes-a.ensures (then c.put_decimal-b.ensures.wrote c.put_bytes.ensures));
      upper_bound = search rules;
    }
