-- The answer is that of `settled` on an accepted file: a refusal by `Settling`, the amounts by `Weighing` on its rows.
use borrow.Author.Rules.{rules}
use borrow.Author.Tests.{not-true, not-false}
use mathlib.Core.Path.{◌≡◌, sym, ◌∙◌}
use mathlib.Core.Bool.{true}
use Prim.Native.Nat.{◌≤◌}
use Rattle.task.specs.Answers.{as_sizes}
use Rattle.task.specs.Limits.{MAX_COST}
use Rattle.task.specs.File.{paired}
use Rattle.task.proofs.Answered.{has_rows}
use Rattle.state.specs.Member.{bit}
use Rattle.settling.specs.Settled.{arguments_allowed}
use Rattle.settling.proofs.Weighing.{worth_is}
use Rattle.settling.proofs.Settling.{few, not_allowed, cost_allowed, worth_on}
use Rattle.settling.proofs.settle_on.Goals as goal
use Rattle.settling.proofs.settle_on.Goals.{Else-not-arguments_allowed}

-- the arguments are allowed
fine : (c : Else-not-arguments_allowed) → let a = c.args in arguments_allowed a.z.preferences a.cost (bit a.met) ≡ true
fine c = sym c.arguments_allowed.ensures ∙ not-false _ c.if-not-arguments_allowed.false-raw

-- so the cost is small
paid : (c : Else-not-arguments_allowed) → c.args.cost ≤ MAX_COST
paid c =
    let a = c.args in
    cost_allowed a.file.now a.cost (bit a.met) a.z c.requires (fine c)

pub arguments_allowed-requires : goal.arguments_allowed-requires
arguments_allowed-requires c =
    let a = c.args in
    few a.file.now a.cost (bit a.met) a.z c.requires

pub returns-then-not-arguments_allowed : goal.returns-then-not-arguments_allowed
returns-then-not-arguments_allowed c =
    let a = c.args in
    rw c.at.ensures (not_allowed a.file.now a.cost (bit a.met) a.z c.requires
    (sym c.arguments_allowed.ensures ∙ not-true _ c.if-not-arguments_allowed.true-raw))

pub rows_of-requires : goal.rows_of-requires
rows_of-requires c = has_rows c.args.file.now (as_sizes c.args.z) c.requires

pub worth-requires : goal.worth-requires
worth-requires c = let h = paid (goal.at.worth-requires c).Else-not-arguments_allowed in search rules

pub returns : goal.returns
returns c =
    let a = c.args in
    worth_on a.file.now a.cost (bit a.met) a.z c.requires (fine (goal.at.returns c).Else-not-arguments_allowed) _
    (λ t e. worth_is (bit a.met) t _ _ ((λ i. paired (c.rows_of.ensures.marks i) (c.rows_of.ensures.values i)) ∙ e) c.weigh.result c.weigh.ensures.result_value a.cost _ _ c.worth.ensures)
