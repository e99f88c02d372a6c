-- Turn by turn: what the search answers is right.
use mathlib.Core.Path.{◌≡◌, refl, ◌∙◌, ap, ap₂, subst}
use mathlib.Core.Bool.{Bool, true, false, cond, ◌&&◌, and-true}
use mathlib.Core.List.{List, [], ◌∷◌, ◌++◌}
use mathlib.Core.Option.{Option, none, some}
use Prim.Native.Nat.{ℕ, zero, suc, ◌+◌, ◌<◌, ◌≤◌}
use native.Mathlib.Omega.{arith}
use lib.Dec.{T}
use lib.ListN.{length}
use Rattle.lists.specs.Lists.{all, singleton, last_or}
use Rattle.meaning.specs.Task.{Task, Preference, well_formed}
use Rattle.meaning.specs.Meaning.{State, is_true, opening, after, action_at, applies, runs, reached, final, is_kept, solves, cost}
use Rattle.lists.proofs.Tests.{both_true, not_both, as_true, as_t}
use Rattle.meaning.proofs.WellFormed.{action_count}
use Rattle.searching.specs.Search.{Node, stepped, opening_node, node_at, Kept, tried, cheapest, with_place, plan_to, go_on, turn, turns}
use Rattle.searching.specs.Search.{Outcome, found, no_plan, full, Answer, answer}
use Rattle.searching.proofs.Choice.{Cheapest, Chosen, chosen}
use Rattle.searching.proofs.Invariant.{Every, Upto, Ready, Linked, rooted, depth}
use Rattle.searching.proofs.Taking.{taken_now, turns_most, turns_open, take_ready, take_top}
use Rattle.searching.proofs.Expansion.{Midway, Crowded}
use Rattle.searching.proofs.Trying.{Progress, going, stuck, progress, all_tried}
use Rattle.searching.proofs.Plans.{Leads, leads, leads_on, plan_short, plan_steady}

-- What an answer says

-- the plan that leads to place i solves, at the node's cost; no list that solves costs less
pub record Found (t : Task) (limit : ℕ) (ns : List Node) (i : ℕ) : Type 0 where
  pub inside : i < length ns
  pub solution : T (solves t (plan_to ns i))
  pub priced : cost t (plan_to ns i) ≡ (node_at ns i).cost
  pub least : (q : List ℕ) → T (solves t q) → cost t (plan_to ns i) ≤ cost t q
  pub short : length (plan_to ns i) < limit

-- there are as many nodes as the limit, and a list that runs leads to a state that has none
pub record Full (t : Task) (limit : ℕ) (ns : List Node) : Type 0 where
  pub filled : length ns ≡ limit
  pub steps : List ℕ
  pub run : runs t (opening t) steps ≡ true
  pub no_entry : (j : ℕ) → j < length ns → (node_at ns j).state ≡ final t steps → ⊥

abbrev pub Says : Task → ℕ → Outcome → List Node → Type 0
Says t limit (found i) ns = Found t limit ns i
Says t limit no_plan ns = (q : List ℕ) → T (solves t q) → ⊥
Says t limit full ns = Full t limit ns

-- the nodes: one entry for each state kept, the opening node first, each other one reached from its origin, for its cost
pub record Listed (t : Task) (limit : ℕ) (ns : List Node) : Type 0 where
  pub some : 0 < length ns
  pub room : length ns ≤ limit
  pub first : node_at ns 0 ≡ opening_node t
  pub distinct : (i j : ℕ) → i < length ns → j < length ns → (node_at ns i).state ≡ (node_at ns j).state → i ≡ j
  pub linked : (j : ℕ) → j < length ns → (j ≡ 0 → ⊥) → ((node_at ns j).origin < length ns) × Linked t ns (node_at ns j)
  pub led : (j : ℕ) → j < length ns → Leads t (plan_to ns j) (node_at ns j)

pub record Right (t : Task) (limit : ℕ) (a : Answer) : Type 0 where
  pub says : Says t limit a.outcome a.nodes
  pub listed : Listed t limit a.nodes

-- a task without preferences has no rule to keep
abbrev pub reaches : Task → List ℕ → Bool
reaches t p = runs t (opening t) p && is_true (final t p) t.goal

pub no_rules : (t : Task) → t.preferences ≡ [] → (p : List ℕ) → solves t p ≡ reaches t p
no_rules t plain p = ap (λ (qs : List Preference). reaches t p && all (is_kept t p) qs) plain ∙ and-true (reaches t p)

-- the chosen place is taken, and none of its actions tried yet
pub taken_midway : (t : Task) (limit : ℕ) (ns : List Node) (taken : ℕ → Bool) (m i : ℕ) → Ready t limit ns taken Every m
    → Cheapest ns taken (length ns) i → is_true (node_at ns i).state t.goal ≡ false
    → Midway t limit (with_place i taken) (suc m) i (node_at ns i) 0 ns
taken_midway t limit ns taken m i R C g =
    record { ready = take_ready t limit ns taken m i R C g; here = refl; top = take_top t limit ns taken m i R C }

module _ (t : Task) (wf : T (well_formed t)) (plain : t.preferences ≡ []) (limit : ℕ) where
  -- Where the search is ready for a turn
  module _ (ns : List Node) (taken : ℕ → Bool) (m : ℕ) (R : Ready t limit ns taken Every m) where
    -- a list that leads from an entry to the goal passes an open entry, which costs no more than the list from its start
    passes_open : (p : List ℕ) (j : ℕ) → j < length ns → runs t (node_at ns j).state p ≡ true
        → is_true (last_or (node_at ns j).state (reached t (node_at ns j).state p)) t.goal ≡ true
        → (l : ℕ) × (l < length ns) × (taken l ≡ false) × ((node_at ns l).cost ≤ (node_at ns j).cost + cost t p)
    passes_open [] j h r g = go (taken j) refl
      where
        go : (b : Bool) → taken j ≡ b → (l : ℕ) × (l < length ns) × (taken l ≡ false) × ((node_at ns l).cost ≤ (node_at ns j).cost + cost t [])
        go true e = absurd (not_both g (R.unmet j e))
        go false e = (j, h, e, omega arith)
    passes_open (k ∷ p) j h r g = go (taken j) refl (passes_open p)
      where
        parts : (applies t (node_at ns j).state k ≡ true) × (runs t (after (node_at ns j).state (action_at t k)) p ≡ true)
        parts = both_true (applies t (node_at ns j).state k) (runs t (after (node_at ns j).state (action_at t k)) p) r

        go : (b : Bool) → taken j ≡ b
            → ((i : ℕ) → i < length ns → runs t (node_at ns i).state p ≡ true
            → is_true (last_or (node_at ns i).state (reached t (node_at ns i).state p)) t.goal ≡ true
            → (l : ℕ) × (l < length ns) × (taken l ≡ false) × ((node_at ns l).cost ≤ (node_at ns i).cost + cost t p))
            → (l : ℕ) × (l < length ns) × (taken l ≡ false) × ((node_at ns l).cost ≤ (node_at ns j).cost + cost t (k ∷ p))
        go false e f = (j, h, e, omega arith)
        go true e f =
            let c = R.closed j k e tt parts.0 in
            let o = f c.0 c.1 (rw c.2 parts.1) (rw c.2 g) in
            (o.0, o.1, o.2, omega arith)

    solves_open : (q : List ℕ) → T (solves t q) → (l : ℕ) × (l < length ns) × (taken l ≡ false) × ((node_at ns l).cost ≤ cost t q)
    solves_open q h =
        let e : (runs t (opening t) q ≡ true) × (is_true (final t q) t.goal ≡ true) =
        both_true (runs t (opening t) q) (is_true (final t q) t.goal) (as_true (reaches t q) (subst T (no_rules t plain q) h)) in
        let o = passes_open q 0 R.some (rw R.first e.0) (rw R.first e.1) in
        let z : (node_at ns 0).cost ≡ 0 = ap (λ (n : Node). n.cost) R.first in
        (o.0, o.1, o.2, omega arith)

  -- the plan to a place, and the list of the nodes
  module _ (ns : List Node) (taken : ℕ → Bool) (done : ℕ → ℕ → Type 0) (m : ℕ) (R : Ready t limit ns taken done m) where
    plan_leads : (i : ℕ) → i < length ns → Leads t (plan_to ns i) (node_at ns i)
    plan_leads i h =
        let d = depth t limit ns taken done m R i h in
        let n : d.0 ≤ length ns = omega (arith, turns_most t limit ns taken done m R) in
        rw (plan_steady ns d.0 (length ns) i n d.2) (leads t limit ns taken done m R d.0 i h d.2)

    are_listed : Listed t limit ns
    are_listed =
        record {
          some = R.some;
          room = R.room;
          first = R.first;
          distinct = R.distinct;
          linked = λ j h z. let l = R.linked j h z in (R.within (node_at ns j).origin l.0, l.1);
          led = plan_leads;
        }

    is_full : length ns ≡ limit → Crowded t ns → Full t limit ns
    is_full e c =
        let x : Node = stepped t c.place (node_at ns c.place) c.action in
        let l : Leads t (plan_to ns c.place ++ singleton c.action) x =
        leads_on t limit ns taken done m R (plan_to ns c.place) x (plan_leads c.place c.inside)
        (record { applied = c.applied; leads = refl; costs = refl }) in
        record {
          filled = e;
          steps = plan_to ns c.place ++ singleton c.action;
          run = l.run;
          no_entry = λ j h s. c.no_entry j h (s ∙ l.end);
        }

  is_found : (ns : List Node) (taken : ℕ → Bool) (m : ℕ) (R : Ready t limit ns taken Every m) (i : ℕ) → Cheapest ns taken (length ns) i
      → is_true (node_at ns i).state t.goal ≡ true → Found t limit ns i
  is_found ns taken m R i C g =
      record {
        inside = C.within;
        solution =
            as_t (no_rules t plain (plan_to ns i) ∙ ap₂ ◌&&◌ L.run (ap (λ (s : State). is_true s t.goal) L.end ∙ g));
        priced = L.paid;
        least = λ q h. least q (solves_open ns taken m R q h);
        short = short (depth t limit ns taken Every m R i C.within);
      }
    where
      L : Leads t (plan_to ns i) (node_at ns i)
      L = plan_leads ns taken Every m R i C.within

      short : (n : ℕ) × (n ≤ m) × (rooted ns n i ≡ true) → length (plan_to ns i) < limit
      short (n, h, r) =
          let few : m < length ns = turns_open t limit ns taken Every m R i C.within C.is_open in
          rw (plan_steady ns n (length ns) i (omega arith) r) (omega (arith, plan_short ns n i, R.room))

      least : (q : List ℕ) → (l : ℕ) × (l < length ns) × (taken l ≡ false) × ((node_at ns l).cost ≤ cost t q) → cost t (plan_to ns i) ≤ cost t q
      least q (l, h, o, c) = omega (arith, L.paid, C.least l h o)

  -- The turns

  gone_on : (next : List Node → (ℕ → Bool) → Answer) (taken : ℕ → Bool) (m i : ℕ) (x : Node) (K : Kept)
      → ((ns : List Node) → Ready t limit ns (with_place i taken) Every (suc m) → Right t limit (next ns (with_place i taken)))
      → Progress t limit (with_place i taken) (suc m) i x (action_count t) K → Right t limit (go_on next i taken K)
  gone_on next taken m i x K f (going e M) =
      rw e (f K.nodes (all_tried t limit (with_place i taken) (suc m) i K.nodes M.ready))
  gone_on next taken m i x K f (stuck e k M l c) =
      rw e
      (record {
        says = is_full K.nodes (with_place i taken) (Upto i k) (suc m) M.ready l c;
        listed = are_listed K.nodes (with_place i taken) (Upto i k) (suc m) M.ready;
      })

  one_turn : (n : ℕ) (ns : List Node) (taken : ℕ → Bool) (m : ℕ) (R : Ready t limit ns taken Every m)
      → ((new : List Node) (more : ℕ → Bool) → Ready t limit new more Every (suc m) → Right t limit (turns t limit n new more))
      → (c : Option ℕ) → Chosen ns taken (length ns) c → Right t limit (turn t limit (turns t limit n) ns taken c)
  one_turn n ns taken m R f none C =
      record {
        says = λ q h. let o = solves_open ns taken m R q h in C o.0 o.1 o.2;
        listed = are_listed ns taken Every m R;
      }
  one_turn n ns taken m R f (some i) C = go (is_true (node_at ns i).state t.goal) refl
    where
      go : (b : Bool) → is_true (node_at ns i).state t.goal ≡ b
          → Right t limit
          (cond b (answer (found i) ns) (go_on (turns t limit n) i taken (tried t limit i (node_at ns i) ns (action_count t))))
      go true g = record { says = is_found ns taken m R i C g; listed = are_listed ns taken Every m R }
      go false g =
          gone_on (turns t limit n) taken m i (node_at ns i) (tried t limit i (node_at ns i) ns (action_count t))
          (λ new r. f new (with_place i taken) r)
          (progress t wf limit (with_place i taken) (suc m) i (node_at ns i) (taken_now i taken) ns
          (taken_midway t limit ns taken m i R C g) (action_count t))

  pub turns_right : (n : ℕ) (ns : List Node) (taken : ℕ → Bool) (m : ℕ) → Ready t limit ns taken Every m → limit ≤ m + n
      → Right t limit (turns t limit n ns taken)
  turns_right zero ns taken m R h =
      record {
        says = λ q s.
            let o = solves_open ns taken m R q s in
            let l : m < length ns = turns_open t limit ns taken Every m R o.0 o.1 o.2 in
            omega (arith, R.room);
        listed = are_listed ns taken Every m R;
      }
  turns_right (suc n) ns taken m R h =
      one_turn n ns taken m R (λ new more r. turns_right n new more (suc m) r (omega arith)) (cheapest ns taken (length ns)) (chosen ns taken (length ns))
