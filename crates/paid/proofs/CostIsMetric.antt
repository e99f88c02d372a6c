-- The corollary that cost is metric, from faithfulness (demand 3) and from what walk and settle answer.
use mathlib.Core.Path.{◌≡◌, refl, sym, ap, ◌∙◌, subst}
use mathlib.Core.Bool.{Bool, true, false, cond, true≢false}
use mathlib.Core.List.{List}
use Prim.Native.Nat.{ℕ, ◌≤◌}
use lib.Dec.{T, leb, ltb}
use lib.IntN.{ℤ}
use lib.ListN.{length, take}
use borrow.Author.Tests.{le-leb}
use Rattle.lists.specs.Lists.{all}
use Rattle.meaning.specs.Task.{Task}
use Rattle.task.specs.File.{Sizes, task_of}
use Rattle.task.specs.Check.{Answer, accepted, refused, check}
use Rattle.meaning.specs.Meaning.{solves, cost, metric, utility}
use Rattle.meaning.specs.Literals.{literals}
use Rattle.meaning.specs.Verdict.{Verdict, solved, met_set, verdict}
use Rattle.lists.proofs.Tests.{as_true, all_filter}
use Rattle.meaning.proofs.Verdict.{solved_iff, solved_only}
use Rattle.task.proofs.Spelled.{accepted_spelling}
use Rattle.classical.specs.Claim.{source_part}
use Rattle.plan.specs.Judged
use Rattle.plan.specs.Judged.{Judged, given, steps_known, judged}
use Rattle.plan.specs.Walked.{without_worth, walked}
use Rattle.settling.specs.Settled.{worth}
use Rattle.plan.specs.ThenSettled.{priced, then_settle}
use Rattle.plan.proofs.ThenSettled.{settled_plan, walk_then_settle}
use Rattle.outcome.specs.Outcome.{written}
use Rattle.translation.specs.Translated.{outcome_by, outcome, Delivered}
use Rattle.single_effects.specs.Claim as Single
use Rattle.paid.specs.CostIsMetric.{SettledAt, CostIsMetric, StillPaid}

-- What judge gave on an accepted file

module _ (b : List ℕ) (z : Sizes) (h : check b ≡ accepted z) (p : List ℕ) where
  abbrev known : Bool
  known = all (λ (k : ℕ). ltb k z.actions) p

  abbrev answered : Bool → Bool → Judged
  answered short all_Known = cond short (cond all_Known (given (verdict (task_of b) p)) (Judged.refused 11 (steps_known z.actions p))) (Judged.refused 10 0)

  by_check : judged b p ≡ answered (leb (length p) 2048) known
  unfolding judged
  by_check = rw h

  given-verdict : length p ≤ 2048 → known ≡ true → judged b p ≡ given (verdict (task_of b) p)
  given-verdict l k = by_check ∙ rw (le-leb (length p) 2048 l, k)

  only_verdict : (v : Verdict) → judged b p ≡ given v → verdict (task_of b) p ≡ v
  only_verdict v e = go (leb (length p) 2048) known (sym by_check ∙ e)
    where
      go : (s k : Bool) → answered s k ≡ given v → verdict (task_of b) p ≡ v
      go true true e = cc
      go true false e = cc
      go false k e = cc

-- what judge gave, from what walk and settle answer
judged_at : (b p : List ℕ) (m : ℕ) → SettledAt b p m → (c : ℕ) × (u : ℤ) × (s : ℕ → Bool) × (judged b p ≡ given (solved c m u s))
judged_at b p m (c, u, s, n, w, e) = (c, u, s, sym (walk_then_settle b p) ∙ ap (then_settle b) w ∙ ap (priced c s) e)

-- The corollary

module _ (b area : List ℕ) (n : ℕ) (z : Sizes) (h : check b ≡ accepted z) (d : Delivered b area n) where
  abbrev source : Task
  source = task_of b

  abbrev written_task : Task
  written_task = task_of (take n area)

  -- the steps of a source part are known
  steps : (x : List ℕ) → all (λ (k : ℕ). ltb k z.actions) (source_part source x) ≡ true
  steps x =
      subst (λ (A : ℕ). all (λ (k : ℕ). ltb k A) (source_part source x) ≡ true) (ap (λ (z : Sizes). z.actions) (accepted_spelling b z h).sized)
      (as_true (all (λ (k : ℕ). ltb k (length source.actions)) (source_part source x)) (all_filter (λ (k : ℕ). ltb k (length source.actions)) x))

  pub paid_as_settled : CostIsMetric b area n
  unfolding walked
  paid_as_settled =
      record {
        pays = λ x solving short.
            let p : List ℕ = source_part source x in
            let solving_p : T (solves source p) = (d.faithfully.onto p).0 (x, solving, refl) in (
              cost source p,
              utility source p,
              met_set source p,
              literals source p,
              ap (without_worth (literals source p)) (given-verdict b z h p short (steps x) ∙ ap given ((solved_iff source p).1 solving_p)),
              settled_plan b p z h short ∙ ap (λ (m : ℕ). worth m (utility source p)) (sym (d.faithfully.cost_preserved x solving)),
            );
        offers = λ p m e. from_judged p m (judged_at b p m e);
      }
    where
      found : (p : List ℕ) (m : ℕ) → T (solves source p) × (metric source p ≡ m)
          → (x : List ℕ) × T (solves written_task x) × (source_part source x ≡ p) × (cost written_task x ≡ m)
      found p m (solving, same) = priced_at ((d.faithfully.onto p).1 solving)
        where
          priced_at : (x : List ℕ) × T (solves written_task x) × (source_part source x ≡ p)
              → (x : List ℕ) × T (solves written_task x) × (source_part source x ≡ p) × (cost written_task x ≡ m)
          priced_at (x, solving_x, part) = (x, solving_x, part, d.faithfully.cost_preserved x solving_x ∙ ap (metric source) part ∙ same)

      from_judged : (p : List ℕ) (m : ℕ) → (c : ℕ) × (u : ℤ) × (s : ℕ → Bool) × (judged b p ≡ given (solved c m u s))
          → (x : List ℕ) × T (solves written_task x) × (source_part source x ≡ p) × (cost written_task x ≡ m)
      from_judged p m (c, u, s, e) = found p m (solved_only source p c m u s (only_verdict b z h p (solved c m u s) e))

-- what translate has written is a translation of an accepted file
pub written_paid : (b area : List ℕ) (room n : ℕ) → outcome b room ≡ written n → Delivered b area n → CostIsMetric b area n
unfolding outcome
written_paid b area room n e d = go (check b) refl e
  where
    go : (a : Answer) → check b ≡ a → outcome_by b room a ≡ written n → CostIsMetric b area n
    go (accepted z) h w = paid_as_settled b area n z h d
    go (refused k i) h w = absurd (true≢false (cc))

-- what single has written of a translation has its solutions, at their costs
pub still_paid : (b area : List ℕ) (n : ℕ) → Single.Delivered b area n → StillPaid b area n
still_paid b area n d source compiled m e paid =
    let old : Task = task_of (take m compiled) in
    let new : Task = task_of (take n area) in
    let from_b : task_of b ≡ old = ap task_of (sym e) in
    let solving : (x : List ℕ) → solves old x ≡ solves new x = λ x. ap (λ (t : Task). solves t x) (sym from_b) ∙ d.solving x in
    let costing : (x : List ℕ) → cost old x ≡ cost new x = λ x. ap (λ (t : Task). cost t x) (sym from_b) ∙ (d.judging x).costs in
    record {
      pays = λ x s short.
          subst (SettledAt source (source_part (task_of source) x)) (costing x) (paid.pays x (subst T (sym (solving x)) s) short);
      offers = λ p c s. same (paid.offers p c s) solving costing;
    }
  where
    same : {p : List ℕ} {c : ℕ}
        → (x : List ℕ) × T (solves (task_of (take m compiled)) x) × (source_part (task_of source) x ≡ p) × (cost (task_of (take m compiled)) x ≡ c)
        → ((x : List ℕ) → solves (task_of (take m compiled)) x ≡ solves (task_of (take n area)) x)
        → ((x : List ℕ) → cost (task_of (take m compiled)) x ≡ cost (task_of (take n area)) x)
        → (x : List ℕ) × T (solves (task_of (take n area)) x) × (source_part (task_of source) x ≡ p) × (cost (task_of (take n area)) x ≡ c)
    same (x, s, part, q) solving costing = (x, subst T (solving x) s, part, sym (costing x) ∙ q)
