use Rattle.layout.specs.Sides.{part}
use Rattle.kind_trackers.specs.Rows.{wait_rows}
use Rattle.kind_trackers.proofs.Numbering.{goes_on, ends}
use borrow.Author.Rules.{rules}
use Rattle.kind_trackers.proofs.deadlines.put_waits.Goals as goal

pub loop-j-preserved : goal.loop-j-preserved
loop-j-preserved c =
    let a = c.args in
    goes_on (wait_rows a.f a.steps (part a.rows.now.marks.now a.rows.now.values.now a.psi)) a.steps c.loop-j.invariant (search rules) c.put_wait-k.auto.out c.put_wait-k.ensures

pub returns : goal.returns
returns c =
    let a = c.args in
    ends (wait_rows a.f a.steps (part a.rows.now.marks.now a.rows.now.values.now a.psi)) a.steps c.loop-j.invariant (search rules)

pub returns-2 : goal.returns-2
returns-2 c =
    let a = c.args in
    ends (wait_rows a.f a.steps (part a.rows.now.marks.now a.rows.now.values.now a.psi)) a.steps (goes_on (wait_rows a.f a.steps (part a.rows.now.marks.now a.rows.now.values.now a.psi)) a.steps c.loop-j.invariant (search rules) c.put_wait-k.auto.out c.put_wait-k.ensures) (search rules)
