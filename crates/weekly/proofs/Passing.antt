-- The pass over the plans of a file.
use mathlib.Core.Path.{◌≡◌, refl, sym, ap, subst, ◌∙◌}
use mathlib.Core.List.{List}
use Rattle.std.specs.Prelude.{Result, Ok, Err}
use Prim.Native.Nat.{ℕ, ◌+◌, ◌≤◌, ◌<◌}
use native.Mathlib.Omega.{arith}
use Rattle.task.specs.File.{Sizes}
use Rattle.task.specs.Check
use Rattle.task.specs.Check.{check}
use Rattle.plan.specs.Judged.{judged}
use Rattle.figures.specs.Plans.{count}
use Rattle.figures.specs.Week.{Answer}
use Rattle.figures.specs.Pass.{Tally, no_plans, Turn, on, turned, pass_on, closing, pass_at, MOST, Small, Counting}
use Rattle.figures.proofs.Loop.{plan_at, pass_next, pass_end}
use Rattle.figures.proofs.Small.{small_first, small_turned}
use Rattle.figures.proofs.Uncounted.{counting_first, counting_turned}
use Rattle.weekly.specs.Answers.{as_tally, turn_as, pass_as}
use Rattle.weekly.specs.declared.tally.Totals.{Totals}
use Rattle.task.specs.declared.Refusal.{Refusal}

-- what holds before plan i, of a task of P preferences
pub record Passing (b f : List ℕ) (P : ℕ) (a : Tally) (i : ℕ) : Type 0 where
  pub left : i ≤ count f
  pub small : Small MOST i a
  pub counting : Counting P a
  pub same : pass_at b f P a i ≡ pass_at b f P no_plans 0

pub begun : (b f : List ℕ) (P : ℕ) → Passing b f P no_plans 0
begun b f P = record { left = omega arith; small = small_first MOST; counting = counting_first P; same = refl }

module _ (b f : List ℕ) (P : ℕ) (a : Tally) (i : ℕ) (s : Passing b f P a i) where
  pub passed : count f ≤ i → closing P (on a) ≡ pass_at b f P no_plans 0
  passed h = sym (pass_end f i b P a h) ∙ s.same

  module _ (h : i < count f) (p : List ℕ) (lent : p ≡ plan_at f i) where
    abbrev rest : Tally → Answer
    rest a' = pass_at b f P a' (i + 1)

    next : (x : Turn) → x ≡ turned i a (judged b p) → pass_on rest x ≡ pass_at b f P no_plans 0
    next x e =
        ap (pass_on rest) (e ∙ ap (λ (l : List ℕ). turned i a (judged b l)) lent) ∙ sym (pass_next f i b P a h) ∙ s.same

    -- a refused plan ends the pass
    pub refused_at : (r : Result (Unit {0}) Refusal) (t : Totals) → turn_as r t ≡ turned i a (judged b p) → (g : Refusal) → r ≡ Err g
        → closing P (pass_as (Err g)) ≡ pass_at b f P no_plans 0
    refused_at r t e g q = ap (λ (r : Result (Unit {0}) Refusal). pass_on rest (turn_as r t)) (sym q) ∙ next (turn_as r t) e

    -- any other is taken in
    pub taken_on : (z : Sizes) → check b ≡ Check.accepted z → z.preferences ≡ P → (r : Result (Unit {0}) Refusal) (t : Totals)
        → turn_as r t ≡ turned i a (judged b p) → (u : Unit {0}) → r ≡ Ok u → Passing b f P (as_tally t) (i + 1)
    taken_on z c n r t e u q =
        let turn : on (as_tally t) ≡ turned i a (judged b p) = ap (λ (r : Result (Unit {0}) Refusal). turn_as r t) (sym q) ∙ e in
        let before : Counting z.preferences a = subst (λ (P : ℕ). Counting P a) (sym n) s.counting in
        record {
          left = omega arith;
          small = small_turned b z c p i a (as_tally t) s.small (sym turn);
          counting = subst (λ (P : ℕ). Counting P (as_tally t)) n (counting_turned b z c p i a (as_tally t) before (sym turn));
          same = next (on (as_tally t)) turn;
        }
