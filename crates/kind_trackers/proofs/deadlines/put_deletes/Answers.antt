use Rattle.writer.proofs.Putting.{as_rows}
use Rattle.kind_trackers.proofs.Numbering.{goes_on, ends, deletes, deletes_are}
use borrow.Author.Rules.{rules}
use Rattle.kind_trackers.proofs.deadlines.put_deletes.Goals as goal

pub loop-j-preserved : goal.loop-j-preserved
loop-j-preserved c =
    let a = c.args in
    goes_on (deletes a.d) a.steps c.loop-j.invariant (search rules) c.put_row-k.auto.out c.put_row-k.ensures

pub returns : goal.returns
returns c =
    let a = c.args in
    as_rows (deletes_are a.d 1 a.steps)
    (ends (deletes a.d) a.steps c.loop-j.invariant (search rules))

pub returns-2 : goal.returns-2
returns-2 c =
    let a = c.args in
    as_rows (deletes_are a.d 1 a.steps) (ends (deletes a.d) a.steps (goes_on (deletes a.d) a.steps c.loop-j.invariant (search rules) c.put_row-k.auto.out c.put_row-k.ensures) (search rules))
