-- What the values of `week` stand for.
use Rattle.std.specs.Prelude.{List, ◌++◌, ℕ, ◌-◌, length, take, replicate, Option, Some, None, Result, Ok, Err}
use Rattle.figures.specs.Plans
use Rattle.figures.specs.Figures.{Figures, none_solves, solve}
use Rattle.figures.specs.Week.{Answer, given, refused}
use Rattle.figures.specs.Pass.{Tally, Turn, on, ends}
use Rattle.task.specs.Answers.{number_of, cause_of}
use Rattle.task.specs.Limits.{MAX_PREFERENCES}
use Rattle.task.specs.declared.Refusal.{Refusal}
use Rattle.weekly.specs.declared.plans.Entry.{Entry}
use Rattle.weekly.specs.declared.tally.Totals.{Totals}
use Rattle.weekly.specs.declared.Amounts.{Amounts}

abbrev pub as_entry : Entry → Plans.Entry
as_entry e = record { start = e.start; steps = e.steps }

abbrev pub as_tally : Totals → Tally
as_tally t = record { solving = t.solving; lowest = t.least; highest = t.greatest; total = t.sum; meetings = t.meeting }

-- one plan that is taken in, which leaves the totals t
abbrev pub turn_as : Result (Unit {0}) Refusal → Totals → Turn
turn_as (Ok u) t = on (as_tally t)
turn_as (Err r) t = ends (number_of r.cause) r.place

-- all plans, with their totals
abbrev pub pass_as : Result Totals Refusal → Turn
pass_as (Ok t) = on (as_tally t)
pass_as (Err r) = ends (number_of r.cause) r.place

-- the counts are read where a plan solves, as many as there are preferences
abbrev pub figures_as : Option Amounts → Figures
figures_as None = none_solves
figures_as (Some a) =
    solve a.solving (record {
      meetings = take a.preferences a.meeting;
      lowest = a.least;
      highest = a.greatest;
      total = a.sum;
      quotient = a.mean;
      remainder = a.remainder;
    })

abbrev pub reckoned_as : Result (Option Amounts) Refusal → Answer
reckoned_as (Ok x) = given (figures_as x)
reckoned_as (Err r) = refused (number_of r.cause) r.place

-- The whole value for an answer

-- counts with zeros after them, 16 in all
abbrev pub padded : List ℕ → List ℕ
padded cs = cs ++ replicate (MAX_PREFERENCES - length cs) 0

-- it has as many preferences as there are counts
abbrev pub as_figures : Figures → Option Amounts
as_figures none_solves = None
as_figures (solve n a) =
    Some (record {
      solving = n;
      least = a.lowest;
      greatest = a.highest;
      sum = a.total;
      mean = a.quotient;
      remainder = a.remainder;
      preferences = length a.meetings;
      meeting = padded a.meetings;
    })

abbrev pub as_reckoned : Answer → Result (Option Amounts) Refusal
as_reckoned (given x) = Ok (as_figures x)
as_reckoned (refused n i) = Err (record { cause = cause_of n; place = i })
