-- Rows that the file has no room for (`wrote_past`), or rows that store_again puts.
use native.Mathlib.Omega.{arith}
use borrow.Author.Rules.{rules}
use Rattle.writer.proofs.Putting.{wrote_past}
use Rattle.writer.proofs.repeat_rows.Goals as goal

pub returns-then-c : goal.returns-then-c
returns-then-c c =
    let a = c.args in
    λ xs held. wrote_past a.out.now a.c xs c.advance_by.result c.requires.0 (search rules)
    (c.advance_by.ensures.0, omega (arith, c.advance_by.ensures.1, held.counted, c.requires.1.ordered, c.requires.1.before))
