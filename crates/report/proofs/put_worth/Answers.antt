-- First line, the preferences' lines and last line are written in turn (then of Writing); the utility is the number of its bits.
use mir.Syntax.{w64}
use mir.ValLaws.{to_z-of_z}
use Rattle.text.proofs.Writing.{then}
use Rattle.task.specs.File.{paired}
use Rattle.state.specs.Member.{bit}
use Rattle.report.specs.Rows.{row_lines}
use Rattle.report.proofs.put_worth.Goals as goal

pub returns : goal.returns
returns c =
    let a = c.args in
    let utility = to_z-of_z w64 a.w.utility (record { sfits = c.struct_told-1.given.1.0.1 }) in
    let lines = row_lines (bit a.s.met) 0 (paired a.rows.now.marks.now a.rows.now.values.now) in
    then (then {ys = lines} c.put_solved-a.ensures.wrote c.put_rows-b.ensures.wrote) (rw utility at c.put_amounts.ensures)
