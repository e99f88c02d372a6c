-- A row that opens a preference has the line that put_preference writes, any other row has none: no_bytes of Writing.
use mathlib.Core.Path.{sym, ◌∙◌}
use borrow.Author.Tests.{not-true, not-false}
use Rattle.text.proofs.Writing.{no_bytes}
use Rattle.report.specs.Rows.{row_line}
use borrow.Author.Rules.{rules}
use Rattle.report.proofs.preferences.put_row.Goals as goal

pub returns-then-not-is_preference : goal.returns-then-not-is_preference
unfolding row_line
returns-then-not-is_preference c =
    let a = c.args in
    rw (sym c.is_preference.ensures ∙ not-true _ c.if-not-is_preference.true-raw) (record {
      wrote = no_bytes a.out.now a.next.at;
      number_value = search rules;
    })

pub returns : goal.returns
unfolding row_line
returns c =
    rw (sym c.is_preference.ensures ∙ not-false _ c.if-not-is_preference.false-raw, ← c.is_met.ensures) (record {
      wrote = c.put_preference.ensures.wrote;
      number_value = search rules;
    })
