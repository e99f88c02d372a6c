-- The whole search: what it answers for a task without preferences and a limit.
use mathlib.Core.Path.{◌≡◌, refl, sym, subst}
use mathlib.Core.Logic.{◌↔◌}
use mathlib.Core.Bool.{false, true≢false}
use mathlib.Core.List.{List, []}
use Prim.Native.Nat.{ℕ, zero, suc, ◌<◌, ◌≤◌}
use native.Mathlib.Nat.{not-suc-le-zero, le_of_suc-le-suc}
use native.Mathlib.Omega.{arith}
use lib.Dec.{T}
use Rattle.lists.specs.Lists.{singleton}
use Rattle.meaning.specs.Task.{Task, well_formed}
use Rattle.meaning.specs.Meaning.{solves}
use Rattle.searching.specs.Search.{opening_node, node_at, plan_to, explore, Outcome, found, no_plan, full}
use Rattle.searching.specs.States.{Below}
use Rattle.searching.proofs.States.{opening_below}
use Rattle.searching.proofs.Invariant.{Every, Ready, count}
use Rattle.searching.proofs.Turns.{Right, Found, Says, turns_right}

count_none : (n : ℕ) → count (λ i. false) n ≡ 0
count_none zero = refl
count_none (suc n) = count_none n

module _ (t : Task) (wf : T (well_formed t)) (limit : ℕ) (h : 1 ≤ limit) where
  pub first_ready : Ready t limit (singleton (opening_node t)) (λ i. false) Every 0
  first_ready =
      record {
        some = omega arith;
        room = h;
        first = refl;
        below = below;
        distinct = λ i j a b e. omega arith;
        within = λ j e. absurd (true≢false (sym e));
        linked = λ j a z. absurd (z (omega arith));
        shallow = λ j e. absurd (true≢false (sym e));
        ordered = λ i j e a o. absurd (true≢false (sym e));
        closed = λ i k e d a. absurd (true≢false (sym e));
        unmet = λ i e. absurd (true≢false (sym e));
        counted = count_none limit;
      }
    where
      below : (j : ℕ) → j < 1 → Below t.facts (node_at (singleton (opening_node t)) j).state
      below zero a = opening_below t wf
      below (suc j) a = absurd (not-suc-le-zero (le_of_suc-le-suc a))

  module _ (plain : t.preferences ≡ []) where
    -- what the search answers is right, and so is its list
    pub explored : Right t limit (explore t limit)
    unfolding explore
    explored = turns_right t wf plain limit limit (singleton (opening_node t)) (λ i. false) 0 first_ready (omega arith)

    -- By outcome

    by_outcome : (o : Outcome) → (explore t limit).outcome ≡ o → Says t limit o (explore t limit).nodes
    by_outcome o e = subst (λ (x : Outcome). Says t limit x (explore t limit).nodes) e explored.says

    pub when_found : (i : ℕ) → (explore t limit).outcome ≡ found i → Found t limit (explore t limit).nodes i
    when_found i e = by_outcome (found i) e

    pub none_iff : ((explore t limit).outcome ≡ full → ⊥)
        → ((explore t limit).outcome ≡ no_plan) ↔ ((q : List ℕ) → T (solves t q) → ⊥)
    none_iff room = (by_outcome no_plan, λ f. go (explore t limit).outcome refl f)
      where
        go : (o : Outcome) → (explore t limit).outcome ≡ o → ((q : List ℕ) → T (solves t q) → ⊥) → o ≡ no_plan
        go (found i) e f = absurd (f (plan_to (explore t limit).nodes i) (when_found i e).solution)
        go no_plan e f = refl
        go full e f = absurd (room e)
