-- Whether a plan solves is whether the count is 0; the counts are those of the tally, by `Weeks`.
use Rattle.weekly.specs.Answers.{as_tally}
use Rattle.weekly.proofs.Weeks.{none_solve, some_solve}
use Rattle.weekly.proofs.amounts_of.Goals as goal

pub returns-then-n-eq0 : goal.returns-then-n-eq0
returns-then-n-eq0 c = none_solve c.args.preferences (as_tally c.args.t.now) c.if-n-eq0.true

pub returns : goal.returns
returns c =
    let a = c.args in
    some_solve a.preferences a.t.now c.requires.0 c.requires.1 c.if-n-eq0.false
