-- No rows, rows that the file has no room for (`wrote_past`), or rows that store_rows puts.
use mathlib.Core.Path.{sym, ap, ◌∙◌}
use Rattle.layout.specs.Sides.{part}
use borrow.Author.Rules.{rules}
use Rattle.writer.specs.Writer.{row_after}
use Rattle.writer.proofs.Putting.{wrote_past}
use Rattle.writer.proofs.Copying.{stretch_long}
use Rattle.writer.proofs.copy_rows.Goals as goal

pub returns-then-c : goal.returns-then-c
returns-then-c c =
    let a = c.args in
    let ms = a.rows.now.marks.now in
    let vs = a.rows.now.values.now in
    let long = stretch_long ms vs a.s.from a.s.to (search rules) (search rules) in
    wrote_past a.out.now a.c (part ms vs a.s) c.advance_by.result (search rules) (search rules)
    (c.advance_by.ensures.0, c.advance_by.ensures.1 ∙ ap (row_after a.c.next) (sym long))

pub returns : goal.returns
returns c =
    let a = c.args in
    let long = stretch_long a.rows.now.marks.now a.rows.now.values.now a.s.from a.s.to (search rules) (search rules) in
    record {
      room = search rules;
      same = c.advance_by-2.ensures.0;
      next = c.advance_by-2.ensures.1 ∙ ap (row_after a.c.next) (sym long);
      file = c.store_rows.ensures;
    }
