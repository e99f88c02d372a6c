use Rattle.state.specs.Member.{bit}
use Rattle.report.proofs.Listing.{no_rows, next_row, all_rows}
use borrow.Author.Rules.{rules}
use Rattle.report.proofs.preferences.put_rows.Goals as goal

pub loop-i-init : goal.loop-i-init
loop-i-init c = let a = c.args in no_rows (bit a.met) a.rows.now.marks.now a.rows.now.values.now a.out.now a.at

pub loop-i-preserved : goal.loop-i-preserved
loop-i-preserved c =
    let a = c.args in
    next_row (bit a.met) a.rows.now.marks.now a.rows.now.values.now a.out.now a.at c.loop-i.out c.loop-i.next.at c.loop-i.next.number
    c.loop-i.i c.loop-i.invariant c.put_row-next.result.at c.put_row-next.result.number c.put_row-next.new.out (search rules)
    (rw c.value.ensures at c.put_row-next.ensures.wrote) c.put_row-next.ensures.number_value.0 (search rules) (search rules)

pub returns : goal.returns
returns c =
    let a = c.args in
    record {
      wrote = (all_rows (bit a.met) a.rows.now.marks.now a.rows.now.values.now a.out.now a.at c.loop-i.out c.loop-i.next.at c.loop-i.next.number c.loop-i.i c.loop-i.invariant (search rules)).0;
      upper_bound = (all_rows (bit a.met) a.rows.now.marks.now a.rows.now.values.now a.out.now a.at c.loop-i.out c.loop-i.next.at c.loop-i.next.number c.loop-i.i c.loop-i.invariant (search rules)).1;
    }
