-- The words of a result whose refusals callers know by any number and any place. Of a refusal of this repository they are those of
-- Numbers, by the laws of proofs/Told.
use Rattle.std.specs.Prelude.{ℕ, Option, Result, Ok, Err}
use Rattle.refusals.specs.declared.Numbered.{Numbered}
use Rattle.task.specs.Check.{accepted}
use Rattle.task.specs.Answers.{as_sizes}
use Rattle.task.specs.declared.Sizes.{Sizes}
use Rattle.outcome.specs.Outcome.{written}
use Rattle.pddl_text.specs.Outcomes
use Rattle.pddl_text.specs.declared.Lengths.{Lengths}
use Rattle.plan.specs.Answers.{given_as}
use Rattle.plan.specs.declared.Walked.{Walked}
use Rattle.settling.specs.Settled.{worth}
use Rattle.settling.specs.declared.Worth.{Worth}
use Rattle.weekly.specs.Answers.{figures_as}
use Rattle.weekly.specs.declared.Amounts.{Amounts}
use Rattle.lost_run.specs.Run.{run_as}
use Rattle.lost_run.specs.declared.Run.{Run}
use Rattle.finding.specs.declared.Sought.{Sought}
use Rattle.words.specs.Numbers.{Call, refusal_in, of_check, of_outcome, of_texts, of_walk, of_settle, of_figures, of_lost, of_sought}

-- the words of the value, or of what callers are told of the refusal, in an answer of N words
abbrev pub of_result : {A E : Type 0} → ℕ → (A → Call) → (E → Numbered) → Result A E → Call
of_result N value told (Ok x) = value x
of_result N value told (Err e) = refusal_in N (told e).number (told e).place

-- The words of each value

abbrev pub of_sizes : Sizes → Call
of_sizes z = of_check (accepted (as_sizes z))

abbrev pub of_length : ℕ → Call
of_length n = of_outcome (written n)

abbrev pub of_lengths : Lengths → Call
of_lengths n = of_texts (Outcomes.written n.domain n.problem)

abbrev pub of_walked : Walked → Call
of_walked w = of_walk (given_as w)

abbrev pub of_worth : Worth → Call
of_worth w = of_settle (worth w.metric w.utility)

abbrev pub of_reckoned : Option Amounts → Call
of_reckoned x = of_figures (figures_as x)

abbrev pub of_run : Run → Call
of_run x = of_lost (run_as x)

abbrev pub of_end : Sought → Call
of_end s = of_sought (Ok s)
