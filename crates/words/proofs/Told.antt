-- Of a refusal of this repository the words are those of Numbers.
use mathlib.Core.Path.{◌≡◌, refl}
use Rattle.std.specs.Prelude.{ℕ, Option, Result, Ok, Err}
use Rattle.refusals.specs.Numbers.{numbered}
use Rattle.task.specs.Answers.{answer as checked_as}
use Rattle.task.specs.declared.Sizes.{Sizes}
use Rattle.task.specs.declared.Refusal.{Refusal}
use Rattle.outcome.specs.Answers.{answer as outcome_as}
use Rattle.pddl_text.specs.Answers.{answer as texts_as}
use Rattle.pddl_text.specs.declared.Lengths.{Lengths}
use Rattle.plan.specs.Answers.{walked_as}
use Rattle.plan.specs.declared.Walked.{Walked}
use Rattle.settling.specs.Answers.{settled_as}
use Rattle.settling.specs.declared.Worth.{Worth}
use Rattle.weekly.specs.Answers.{reckoned_as}
use Rattle.weekly.specs.declared.Amounts.{Amounts}
use Rattle.lost.specs.Answers.{losses_as}
use Rattle.lost_run.specs.declared.Run.{Run}
use Rattle.finding.specs.declared.Sought.{Sought}
use Rattle.words.specs.Numbers.{of_check, of_outcome, of_texts, of_walk, of_settle, of_week, of_losses, of_sought}
use Rattle.words.specs.Told.{of_result, of_sizes, of_length, of_lengths, of_walked, of_worth, of_reckoned, of_run, of_end}

pub check_told : (c : Result Sizes Refusal) → of_result 8 of_sizes numbered c ≡ of_check (checked_as c)
check_told (Ok z) = refl
check_told (Err r) = refl

pub outcome_told : (o : Result ℕ Refusal) → of_result 8 of_length numbered o ≡ of_outcome (outcome_as o)
outcome_told (Ok n) = refl
outcome_told (Err r) = refl

pub texts_told : (o : Result Lengths Refusal) → of_result 8 of_lengths numbered o ≡ of_texts (texts_as o)
texts_told (Ok n) = refl
texts_told (Err r) = refl

pub walk_told : (w : Result Walked Refusal) → of_result 8 of_walked numbered w ≡ of_walk (walked_as w)
walk_told (Ok x) = refl
walk_told (Err r) = refl

pub settle_told : (s : Result Worth Refusal) → of_result 8 of_worth numbered s ≡ of_settle (settled_as s)
settle_told (Ok w) = refl
settle_told (Err r) = refl

pub week_told : (r : Result (Option Amounts) Refusal) → of_result 24 of_reckoned numbered r ≡ of_week (reckoned_as r)
week_told (Ok x) = refl
week_told (Err r) = refl

pub losses_told : (l : Result Run Refusal) → of_result 8 of_run numbered l ≡ of_losses (losses_as l)
losses_told (Ok x) = refl
losses_told (Err r) = refl

pub sought_told : (s : Result Sought Refusal) → of_result 8 of_end numbered s ≡ of_sought s
sought_told (Ok x) = refl
sought_told (Err r) = refl
