-- A plan that solves is settled, any other changes nothing.
use mathlib.Core.Path.{sym, ap, ◌∙◌}
use Rattle.task.specs.Answers.{as_sizes}
use Rattle.state.specs.Member.{bit}
use Rattle.settling.specs.Settled
use Rattle.plan.specs.Walked
use Rattle.plan.specs.ThenSettled.{priced, with_amounts}
use Rattle.plan.specs.Answers.{as_verdict}
use Rattle.plan.specs.declared.Verdict.{Verdict}
use Rattle.figures.specs.Pass.{Turn, turned}
use Rattle.weekly.specs.Answers.{as_tally}
use Rattle.weekly.proofs.Taking.{cheap_settled}
use Prim.Native.Nat.{ℕ}
use mathlib.Core.List.{List}
use Rattle.weekly.specs.declared.tally.Totals.{Totals}
use Rattle.weekly.proofs.tally.take_verdict.Goals as goal

-- the turn that a verdict makes
abbrev turn : (k : ℕ) (t : Totals) (file : List ℕ) → Verdict → Turn
turn k t file v = turned k (as_tally t) (with_amounts file (as_verdict v))

pub take_settled-requires : goal.take_settled-requires
take_settled-requires c =
    let a = c.args in
    let s = c.in-Solved.s in
    let looked = c.requires.file_value.1.1 in (
      c.requires.room,
      cheap_settled a.file.now (as_sizes a.z) c.requires.file_value.0 c.requires.file_value.1.0 s.cost s.met looked
          (ap (λ (v : Verdict). Walked.given (as_verdict v) looked) (sym c.in-Solved.is) ∙ c.requires.file_value.1.2) c.settle_on-settled.result c.settle_on-settled.ensures,
    )

pub returns-in-Solved : goal.returns-in-Solved
returns-in-Solved c =
    let a = c.args in
    let s = c.in-Solved.s in
    c.take_settled.ensures s.cost
    ∙ ap (λ (x : Settled.Settled). turned a.k (as_tally a.t.now) (priced s.cost (bit s.met) x)) c.settle_on-settled.ensures
    ∙ ap (turn c.args.k c.args.t.now c.args.file.now) (sym c.in-Solved.is)

pub returns-in-Stopped : goal.returns-in-Stopped
returns-in-Stopped c = ap (turn c.args.k c.args.t.now c.args.file.now) (sym c.in-Stopped.is)

pub returns-in-GoalMissed : goal.returns-in-GoalMissed
returns-in-GoalMissed c = ap (turn c.args.k c.args.t.now c.args.file.now) (sym c.in-GoalMissed.is)

pub returns-in-RuleMissed : goal.returns-in-RuleMissed
returns-in-RuleMissed c = ap (turn c.args.k c.args.t.now c.args.file.now) (sym c.in-RuleMissed.is)
