-- The whole answer, in the order of the refusals, and what is promised of it.
use mathlib.Core.Path.{◌≡◌, refl, sym, ap, subst, ◌∙◌}
use mathlib.Core.Bool.{true, false}
use mathlib.Core.List.{List, ◌++◌}
use Rattle.std.specs.Prelude.{Option, Some, None, Result, Ok, Err}
use Prim.Native.Nat.{ℕ, ◌-◌, ◌/◌, ◌%◌, ◌≤◌}
use native.Mathlib.Omega.{arith}
use lib.ListN.{length, take, replicate, take-append-drop}
use lib.Seq.{take_at, length-take-le}
use borrow.Author.Tests.{eq-eqb, ne_eqb}
use Rattle.task.specs.File as Files
use Rattle.task.specs.Check
use Rattle.task.specs.Check.{check}
use Rattle.task.specs.Answers.{number_of, answer as checked}
use Rattle.task.specs.declared.Refusal.{Refusal}
use Rattle.task.specs.declared.refused.Cause.{Cause}
use Rattle.task.specs.declared.Sizes
use Rattle.task.proofs.Answered.{passed_on}
use Rattle.task.proofs.Causes.{cause_back}
use Rattle.task.proofs.Checking.{within}
use Rattle.task.proofs.Spelled.{accepted_spelling}
use Rattle.figures.specs.Plans.{readable}
use Rattle.figures.specs.Figures.{Figures, none_solves, solve}
use Rattle.figures.specs.Week.{given, refused, week_by, week_of}
use Rattle.figures.specs.Pass.{Tally, no_plans, closed, closing, pass_at, Counting, CountingIn}
use Rattle.figures.specs.Promised.{Promised}
use Rattle.figures.proofs.Loop.{week_unreadable, week_pass}
use Rattle.figures.proofs.Promised.{promised}
use Rattle.weekly.specs.Answers.{as_tally, pass_as, figures_as, reckoned_as, padded, as_figures, as_reckoned}
use Rattle.weekly.specs.declared.tally.Totals.{Totals}
use Rattle.weekly.specs.declared.Amounts.{Amounts}

-- the value for figures stands for them
stands_for : (x : Figures) → figures_as (as_figures x) ≡ x
stands_for none_solves = refl
stands_for (solve n a) =
    let m = a.meetings in
    let e : take (length m) (padded m) ≡ m = take_at m (replicate (16 - length m) 0) (length m) refl in
    λ z. solve n (record {
      meetings = e z;
      lowest = a.lowest;
      highest = a.highest;
      total = a.total;
      quotient = a.quotient;
      remainder = a.remainder;
    })

-- all that the contract says of an answer
pub record Kept (b f : List ℕ) (r : Result (Option Amounts) Refusal) : Type 0 where
  pub result_value : reckoned_as r ≡ week_of b f
  pub value : r ≡ as_reckoned (week_of b f)
  pub promises : Promised b f (reckoned_as r)

-- the value for figures keeps it
pub given_kept : (b f : List ℕ) (x : Option Amounts) (y : Figures) → x ≡ as_figures y → given y ≡ week_of b f → Kept b f (Ok x)
given_kept b f x y e q =
    let r : reckoned_as (Ok x) ≡ week_of b f = ap (λ (z : Option Amounts). given (figures_as z)) e ∙ ap given (stands_for y) ∙ q in
    record { result_value = r; value = ap Ok e ∙ ap as_reckoned q; promises = promised b f (reckoned_as (Ok x)) r }

-- and so does a refusal
pub refused_kept : (b f : List ℕ) (r : Refusal) → refused (number_of r.cause) r.place ≡ week_of b f → Kept b f (Err r)
refused_kept b f r q =
    let back : Err r ≡ as_reckoned (refused (number_of r.cause) r.place) = ap (λ (c : Cause). Err (record { cause = c; place = r.place })) (sym (cause_back r.cause)) in
    record { result_value = q; value = back ∙ ap as_reckoned q; promises = promised b f (reckoned_as (Err r)) q }

-- a file that is not accepted: its refusal
pub turned_down : (b f : List ℕ) (x : Result Sizes.Sizes Refusal) → checked x ≡ check b → (r : Refusal) → x ≡ Err r
    → refused (number_of r.cause) r.place ≡ week_of b f
unfolding week_of
turned_down b f = passed_on (week_by b f) b

-- the figures of a tally where no plan solves
pub none_solve : (P : ℕ) (a : Tally) → a.solving ≡ 0 → None ≡ as_figures (closed P a)
none_solve P a e = rw (eq-eqb a.solving 0 e)

-- and where one does: its counts are those of its figures, and zeros after them
pub some_solve : (P : ℕ) (t : Totals) → P ≤ 16 → Counting P (as_tally t) → (t.solving ≡ 0 → ⊥)
    → Some (record {
      solving = t.solving;
      least = t.least;
      greatest = t.greatest;
      sum = t.sum;
      mean = t.sum / t.solving;
      remainder = t.sum % t.solving;
      preferences = P;
      meeting = t.meeting;
    }) ≡ as_figures (closed P (as_tally t))
some_solve P t few n some =
    let cs : List ℕ = t.meeting in
    let m : length (take P cs) ≡ P = length-take-le P cs (omega (arith, few, n.sixteen)) in
    let all : cs ≡ padded (take P cs) =
    sym (take-append-drop P cs) ∙ ap (λ (l : List ℕ). take P cs ++ l) (n.beyond ∙ ap (λ (k : ℕ). replicate (16 - k) 0) (sym m)) in
    rw (ne_eqb t.solving 0 some) (λ z. Some (record {
      solving = t.solving;
      least = t.least;
      greatest = t.greatest;
      sum = t.sum;
      mean = t.sum / t.solving;
      remainder = t.sum % t.solving;
      preferences = sym m z;
      meeting = all z;
    }))

module _ (b f : List ℕ) (z : Files.Sizes) (h : check b ≡ Check.accepted z) where
  pub unreadable : readable f ≡ false → refused 18 0 ≡ week_of b f
  unreadable r = sym (week_unreadable b f z h r)

  pub few : z.preferences ≤ 16
  few = (within z (accepted_spelling b z h).allowed).4

  -- by what the pass came to
  module _ (read : readable f ≡ true) (r : Result Totals Refusal) (e : closing z.preferences (pass_as r) ≡ pass_at b f z.preferences no_plans 0) where
    pub of_pass : (s : Result Totals Refusal) → r ≡ s → closing z.preferences (pass_as s) ≡ week_of b f
    of_pass s q = ap (λ (x : Result Totals Refusal). closing z.preferences (pass_as x)) (sym q) ∙ e ∙ sym (week_pass b f z h read)

    -- the counts, where it came to the totals of all plans
    pub counted : CountingIn z.preferences (pass_as r) → (t : Totals) → r ≡ Ok t → Counting z.preferences (as_tally t)
    counted n t q = subst (λ (y : Result Totals Refusal). CountingIn z.preferences (pass_as y)) q n
