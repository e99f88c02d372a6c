-- The facts below 64, then those above (`by_words`).
use mathlib.Core.Path.{sym}
use Rattle.writer.proofs.Putting.{then, as_rows}
use Rattle.spelling.proofs.RisingRows.{by_words}
use Rattle.spelling.proofs.rising.put_rising.Goals as goal

pub returns : goal.returns
returns c =
    let a = c.args in
    as_rows (sym (by_words a.a a.b a.first a.second)) (then c.put_word-k.ensures c.put_word.ensures)
