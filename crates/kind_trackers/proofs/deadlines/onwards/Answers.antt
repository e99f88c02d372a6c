use Rattle.kind_trackers.specs.Rows.{onward_rows}
use Rattle.kind_trackers.proofs.Numbering.{goes_on, ends}
use borrow.Author.Rules.{rules}
use Rattle.kind_trackers.proofs.deadlines.onwards.Goals as goal

pub loop-j-preserved : goal.loop-j-preserved
loop-j-preserved c =
    let a = c.args in
    goes_on (onward_rows a.d) a.steps c.loop-j.invariant (search rules) c.put_onward-k.auto.out c.put_onward-k.ensures

pub returns : goal.returns
returns c =
    let a = c.args in
    ends (onward_rows a.d) a.steps c.loop-j.invariant (search rules)

pub returns-2 : goal.returns-2
returns-2 c =
    let a = c.args in
    ends (onward_rows a.d) a.steps (goes_on (onward_rows a.d) a.steps c.loop-j.invariant (search rules) c.put_onward-k.auto.out c.put_onward-k.ensures) (search rules)
