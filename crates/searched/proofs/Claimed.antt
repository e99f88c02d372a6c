-- The claim holds for every file, limit and room.
use mathlib.Core.Path.{◌≡◌, refl, sym, ◌∙◌, ap, subst}
use mathlib.Core.Bool.{true≢false}
use mathlib.Core.List.{List}
use Prim.Native.Nat.{ℕ, ◌≤◌}
use native.Mathlib.Omega.{arith}
use lib.ListN.{length}
use Rattle.meaning.specs.Meaning.{cost}
use Rattle.task.specs.File.{task_of}
use Rattle.task.specs.Check
use Rattle.searching.specs.Limits.{MAX_NODES}
use Rattle.searching.specs.Search
use Rattle.searching.specs.Search.{Node, explore, plan_to}
use Rattle.searching.specs.Claim
use Rattle.searching.specs.Claim.{Cheapest}
use Rattle.searching.proofs.Claim.{claimed}
use Rattle.searched.specs.Searched.{found, no_plan, full, refused, Searched, answer_by, search_file}
use Rattle.searched.specs.Claim.{Claim}
use Rattle.searched.proofs.Made.{by_made}

module _ (b : List ℕ) (limit : ℕ) where
  of_refusal : (n i : ℕ) → Claim b limit (refused n i)
  of_refusal n i =
      record {
        plan = λ p c e. absurd (true≢false (cc e));
        priced = λ p c e. absurd (true≢false (cc e));
        short = λ p c e. absurd (true≢false (cc e));
        none = λ t f. absurd (t n i refl);
        crowded = λ t. absurd (t n i refl);
      }

  -- a search that was made
  module _ (few : limit ≤ MAX_NODES) (C : Claim.Claim (task_of b) limit) where
    abbrev ns : List Node
    ns = (explore (task_of b) limit).nodes

    of_outcome : (o : Search.Outcome) → (explore (task_of b) limit).outcome ≡ o → Claim b limit (answer_by o ns)
    of_outcome (Search.found i) at =
        record {
          plan = λ p c e. subst (Cheapest (task_of b)) (cc e) (C.plan i at);
          priced = λ p c e. let q : plan_to ns i ≡ p = cc e in ap (cost (task_of b)) (sym q) ∙ C.priced i at ∙ cc e;
          short = λ p c e. let q : plan_to ns i ≡ p = cc e in omega (arith, ap length q, C.short i at);
          none = λ t f. (λ e. absurd (true≢false (cc e)), λ u. absurd (u (plan_to ns i) (C.plan i at).solution));
          crowded = λ t. (λ e. absurd (true≢false (cc e)), λ h. absurd (true≢false (cc (at, C.crowded.1 h))));
        }
    of_outcome Search.no_plan at =
        record {
          plan = λ p c e. absurd (true≢false (cc e));
          priced = λ p c e. absurd (true≢false (cc e));
          short = λ p c e. absurd (true≢false (cc e));
          none = λ t f. (λ e. (C.none (λ w. absurd (true≢false (cc (at, w))))).0 at, λ u. refl);
          crowded = λ t. (λ e. absurd (true≢false (cc e)), λ h. absurd (true≢false (cc (at, C.crowded.1 h))));
        }
    of_outcome Search.full at =
        record {
          plan = λ p c e. absurd (true≢false (cc e));
          priced = λ p c e. absurd (true≢false (cc e));
          short = λ p c e. absurd (true≢false (cc e));
          none = λ t f. absurd (f refl);
          crowded = λ t. (λ e. C.crowded.0 at, λ h. refl);
        }

pub search_claim : (b : List ℕ) (limit room : ℕ) → Claim b limit (search_file b limit room).answer
search_claim b limit room =
    by_made b limit room (λ (x : Searched). Claim b limit x.answer) (of_refusal b limit)
    (λ m. of_outcome b limit m.allowed.few (claimed (task_of b) m.formed m.plain limit m.allowed.some) (explore (task_of b) limit).outcome refl)
