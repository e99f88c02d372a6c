-- Walk followed by settle: the judged plan, with all its amounts.
use Rattle.std.specs.Prelude.{Bool, List, ℕ}
use Rattle.meaning.specs.Verdict
use Rattle.settling.specs.Settled.{Settled, worth, settled}
use Rattle.plan.specs.Judged.{Judged}
use Rattle.plan.specs.Walked.{Walk, solved, stopped, goal_missed, rule_missed, Walked, given}

abbrev pub priced : ℕ → (ℕ → Bool) → Settled → Judged
priced cost met (worth metric utility) = Judged.given (Verdict.solved cost metric utility met)
priced cost met (Settled.refused n i) = Judged.refused n i

abbrev pub with_amounts : List ℕ → Walk → Judged
with_amounts b (solved cost met) = priced cost met (settled b cost met)
with_amounts b (stopped i) = Judged.given (Verdict.stopped i)
with_amounts b goal_missed = Judged.given Verdict.goal_missed
with_amounts b (rule_missed i) = Judged.given (Verdict.rule_missed i)

-- however many literals were looked at
abbrev pub then_settle : List ℕ → Walked → Judged
then_settle b (given v looked) = with_amounts b v
then_settle b (Walked.refused n i) = Judged.refused n i
