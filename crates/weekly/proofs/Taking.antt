-- One plan taken in, from what walk and settle answer.
use mathlib.Core.Path.{◌≡◌, sym, ap, ◌∙◌}
use mathlib.Core.List.{List}
use Rattle.std.specs.Prelude.{Result, Ok, Err}
use Prim.Native.Nat.{ℕ, ◌<◌}
use native.Mathlib.Omega.{arith}
use lib.Dec.{leb, leb→le, le→leb}
use Rattle.lists.proofs.Tests.{all_implies}
use Rattle.task.specs.File.{Sizes}
use Rattle.task.specs.Check
use Rattle.task.specs.Check.{check}
use Rattle.state.specs.Member.{bit}
use Rattle.settling.specs.Settled.{settled}
use Rattle.settling.specs.Answers.{settled_as}
use Rattle.task.specs.declared.Refusal.{Refusal}
use Rattle.settling.specs.declared.Worth.{Worth}
use Rattle.plan.specs.Judged.{judged}
use Rattle.plan.specs.Walked
use Rattle.plan.specs.Walked.{solved, walked}
use Rattle.plan.specs.ThenSettled.{priced, then_settle}
use Rattle.plan.proofs.ThenSettled.{walk_then_settle}
use Rattle.figures.specs.Pass.{Tally, turned, MOST, Small}
use Rattle.figures.proofs.Small.{metric_small}
use Rattle.weekly.specs.Answers.{as_tally}
use Rattle.weekly.specs.Turns.{Cheap, Room}
use Rattle.weekly.specs.declared.tally.Totals.{Totals}

-- fewer than 64 plans leave room for one more
pub room_left : (k : ℕ) (t : Totals) → k < 64 → Small MOST k (as_tally t) → Room t
room_left k t h s = record {
  few = omega (arith, s.few);
  sum = omega (arith, s.sum);
  counts = record {
    few = all_implies (λ (c : ℕ). leb c k) (λ (c : ℕ). leb c 64) (λ c t. le→leb c 64 (omega (arith, leb→le c k t))) t.meeting s.counts;
    sixteen = s.sixteen;
  };
}

-- the turn of a walked plan
pub turn_walked : (b p : List ℕ) (w : Walked.Walked) → w ≡ walked b p → (k : ℕ) (a : Tally) → turned k a (then_settle b w) ≡ turned k a (judged b p)
turn_walked b p w e k a = ap (turned k a) (ap (then_settle b) e ∙ walk_then_settle b p)

-- what settle answers on a plan that solves
pub cheap_settled : (b : List ℕ) (z : Sizes) → check b ≡ Check.accepted z → (p : List ℕ) (cost met looked : ℕ)
    → Walked.given (solved cost (bit met)) looked ≡ walked b p → (s : Result Worth Refusal) → settled_as s ≡ settled b cost (bit met) → Cheap s
cheap_settled b z h p cost met looked e (Err r) q = tt
cheap_settled b z h p cost met looked e (Ok w) q =
    metric_small b z h p cost w.metric w.utility (bit met)
    (sym (ap (then_settle b) e ∙ walk_then_settle b p) ∙ ap (priced cost (bit met)) (sym q))
