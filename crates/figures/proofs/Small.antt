-- No number of the tally outgrows its type.
use mathlib.Core.Path.{◌≡◌, refl, ap, subst, ◌∙◌}
use mathlib.Core.Bool.{Bool, true, false, cond}
use mathlib.Core.List.{List, [], ◌∷◌}
use Prim.Native.Nat.{ℕ, suc, ◌+◌, ◌*◌, ◌≤◌}
use native.Mathlib.Nat.{suc-mul, zero-mul}
use native.Mathlib.Numerals.{add-one}
use native.Mathlib.Omega.{arith}
use lib.Dec.{T, leb, leb→le, le→leb}
use lib.IntN.{ℤ}
use lib.ListN.{length}
use Rattle.lists.specs.Lists.{all}
use Rattle.task.specs.File.{Sizes, task_of}
use Rattle.meaning.specs.Meaning.{metric}
use Rattle.task.specs.Check
use Rattle.task.specs.Check.{check}
use Rattle.task.specs.Limits.{MAX_AMOUNT}
use Rattle.meaning.specs.Verdict.{solved, stopped, goal_missed, rule_missed}
use Rattle.lists.proofs.Tests.{tests, all_implies, and_both}
use Rattle.meaning.proofs.Verdict.{solved_only}
use Rattle.plan.specs.Judged
use Rattle.plan.specs.Judged.{Judged, judged}
use Rattle.figures.specs.Pass.{Tally, no_plans, raised, counted, Turn, on, ends, turned, AtMost, MOST, Small}
use Rattle.figures.proofs.Judging.{judged_only, not_long}
use Rattle.figures.proofs.Solving.{accepted_limited, metric_most}

more : (i c : ℕ) → T (leb c i) → T (leb c (i + 1))
more i c t = le→leb c (i + 1) (omega (arith, leb→le c i t))

pub length-raised : (met : ℕ → Bool) (k : ℕ) (cs : List ℕ) → length (raised met k cs) ≡ length cs
length-raised met k [] = refl
length-raised met k (c ∷ cs) = ap suc (length-raised met (k + 1) cs)

raised_small : (met : ℕ → Bool) (i k : ℕ) (cs : List ℕ) → AtMost i cs → AtMost (i + 1) (raised met k cs)
raised_small met i k [] t = tt
raised_small met i k (c ∷ cs) t =
    and_both (leb (cond (met k) (c + 1) c) (i + 1)) (all (λ (c : ℕ). leb c (i + 1)) (raised met (k + 1) cs)) (go (met k) (leb→le c i (search tests)))
    (raised_small met i (k + 1) cs (search tests))
  where
    go : (b : Bool) → c ≤ i → T (leb (cond b (c + 1) c) (i + 1))
    go true h = le→leb (c + 1) (i + 1) (omega arith)
    go false h = le→leb c (i + 1) (omega arith)

module _ (most : ℕ) where
  pub small_first : Small most 0 no_plans
  small_first = record { few = omega arith; sum = rw (zero-mul most) (omega arith); counts = tt; sixteen = refl }

  module _ (i : ℕ) (a : Tally) (s : Small most i a) where
    grown : (i + 1) * most ≡ i * most + most
    grown = rw (add-one i) (suc-mul i most)

    pub small_counted : (metric : ℕ) (met : ℕ → Bool) → metric ≤ most → Small most (i + 1) (counted a metric met)
    small_counted metric met h =
        record {
          few = omega (arith, s.few);
          sum = omega (arith, s.sum, grown);
          counts = raised_small met i 0 a.meetings s.counts;
          sixteen = length-raised met 0 a.meetings ∙ s.sixteen;
        }

    pub small_next : Small most (i + 1) a
    small_next =
        record {
          few = omega (arith, s.few);
          sum = omega (arith, s.sum, grown);
          counts = all_implies (λ (c : ℕ). leb c i) (λ (c : ℕ). leb c (i + 1)) (more i) a.meetings s.counts;
          sixteen = s.sixteen;
        }

-- a metric that is counted
pub metric_small : (b : List ℕ) (z : Sizes) → check b ≡ Check.accepted z → (p : List ℕ) (c m : ℕ) (u : ℤ) (s : ℕ → Bool)
    → judged b p ≡ Judged.given (solved c m u s) → m ≤ MOST
metric_small b z h p c m u s e =
    let known = judged_only b z h p (solved c m u s) e in
    let short : length p ≤ 2048 = leb→le (length p) 2048 (not_long z.actions p (rw known.0 tt)) in
    omega (arith, metric_most (task_of b) MAX_AMOUNT (accepted_limited b z h) p short, (solved_only (task_of b) p c m u s known.1).1)

abbrev tally_in : Tally → Turn → Tally
tally_in d (on a) = a
tally_in d (ends n k) = d

-- so a turn keeps a tally small
pub small_turned : (b : List ℕ) (z : Sizes) → check b ≡ Check.accepted z → (p : List ℕ) (k : ℕ) (a a' : Tally)
    → Small MOST k a → turned k a (judged b p) ≡ on a' → Small MOST (k + 1) a'
small_turned b z h p k a a' s q = go (judged b p) refl q
  where
    go : (j : Judged) → judged b p ≡ j → turned k a j ≡ on a' → Small MOST (k + 1) a'
    go (Judged.given (solved c m u x)) e q =
        subst (Small MOST (k + 1)) (ap (tally_in a) q) (small_counted MOST k a s m x (metric_small b z h p c m u x e))
    go (Judged.given (stopped i)) e q = subst (Small MOST (k + 1)) (ap (tally_in a) q) (small_next MOST k a s)
    go (Judged.given goal_missed) e q = subst (Small MOST (k + 1)) (ap (tally_in a) q) (small_next MOST k a s)
    go (Judged.given (rule_missed i)) e q = subst (Small MOST (k + 1)) (ap (tally_in a) q) (small_next MOST k a s)
    go (Judged.refused n i) e q = let no : ◌≡◌ {A = ℕ} 0 1 = cc in absurd (omega arith)
