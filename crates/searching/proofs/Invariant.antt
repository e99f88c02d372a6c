-- What holds of the nodes and the taken places all along a search.
use mathlib.Core.Path.{◌≡◌, refl, sym, ◌∙◌, ap, subst}
use mathlib.Core.Bool.{Bool, true, false, cond, ◌||◌}
use mathlib.Core.List.{List}
use Prim.Native.Nat.{ℕ, zero, suc, ◌+◌, ◌<◌, ◌≤◌}
use native.Mathlib.Decide.{ℕ_discrete}
use native.Mathlib.Omega.{arith}
use lib.Dec.{eqb, ltb}
use lib.ListN.{length}
use borrow.Author.Tests.{eqb-false, eq-eqb, ne_eqb, ltb-true}
use Rattle.meaning.specs.Task.{Task}
use Rattle.meaning.specs.Meaning.{State, is_true, after, action_at, applies}
use Rattle.lists.proofs.Tests.{not_both, both_true}
use Rattle.meaning.proofs.WellFormed.{action_count}
use Rattle.searching.specs.Search.{Node, opening_node, node_at}
use Rattle.searching.specs.States.{Below}

-- x is what its action leads to from its origin
pub record Linked (t : Task) (ns : List Node) (x : Node) : Type 0 where
  pub applied : applies t (node_at ns x.origin).state x.action ≡ true
  pub leads : x.state ≡ after (node_at ns x.origin).state (action_at t x.action)
  pub costs : x.cost ≡ (node_at ns x.origin).cost + (action_at t x.action).cost

-- n origins lead from place i to place 0
abbrev pub rooted : List Node → ℕ → ℕ → Bool
rooted ns zero i = eqb i 0
rooted ns (suc n) i = eqb i 0 || rooted ns n (node_at ns i).origin

-- the set has so many places below n
abbrev pub count : (ℕ → Bool) → ℕ → ℕ
count taken zero = 0
count taken (suc n) = cond (taken n) (suc (count taken n)) (count taken n)

-- what action k leads to from node x has an entry that costs no more
abbrev pub Entered : Task → List Node → Node → ℕ → Type 0
Entered t ns x k =
    (j : ℕ) × (j < length ns) × ((node_at ns j).state ≡ after x.state (action_at t k))
    × ((node_at ns j).cost ≤ x.cost + (action_at t k).cost)

-- Which actions have been tried at the taken places: all, or at place i only those below n

abbrev pub Every : ℕ → ℕ → Type 0
Every j k = Unit {0}

abbrev pub Upto : ℕ → ℕ → ℕ → ℕ → Type 0
Upto i n j k = j ≡ i → k < n

-- m places have been taken, and at these the actions that pass `done` have been tried
pub record Ready (t : Task) (limit : ℕ) (ns : List Node) (taken : ℕ → Bool) (done : ℕ → ℕ → Type 0) (m : ℕ) : Type 0 where
  pub some : 0 < length ns
  pub room : length ns ≤ limit
  pub first : node_at ns 0 ≡ opening_node t
  pub below : (j : ℕ) → j < length ns → Below t.facts (node_at ns j).state
  pub distinct : (i j : ℕ) → i < length ns → j < length ns → (node_at ns i).state ≡ (node_at ns j).state → i ≡ j
  pub within : (j : ℕ) → taken j ≡ true → j < length ns
  pub linked : (j : ℕ) → j < length ns → (j ≡ 0 → ⊥) → (taken (node_at ns j).origin ≡ true) × Linked t ns (node_at ns j)
  pub shallow : (j : ℕ) → taken j ≡ true → (n : ℕ) × (n < m) × (rooted ns n j ≡ true)
  pub ordered : (i j : ℕ) → taken i ≡ true → j < length ns → taken j ≡ false → (node_at ns i).cost ≤ (node_at ns j).cost
  pub closed : (i k : ℕ) → taken i ≡ true → done i k → applies t (node_at ns i).state k ≡ true → Entered t ns (node_at ns i) k
  pub unmet : (i : ℕ) → taken i ≡ true → is_true (node_at ns i).state t.goal ≡ false
  pub counted : count taken limit ≡ m

-- only what has been tried changes
pub redone : (t : Task) (limit : ℕ) (ns : List Node) (taken : ℕ → Bool) (done more : ℕ → ℕ → Type 0) (m : ℕ) → Ready t limit ns taken done m
    → ((i k : ℕ) → taken i ≡ true → more i k → applies t (node_at ns i).state k ≡ true → Entered t ns (node_at ns i) k)
    → Ready t limit ns taken more m
redone t limit ns taken done more m R f =
    record {
      some = R.some;
      room = R.room;
      first = R.first;
      below = R.below;
      distinct = R.distinct;
      within = R.within;
      linked = R.linked;
      shallow = R.shallow;
      ordered = R.ordered;
      closed = f;
      unmet = R.unmet;
      counted = R.counted;
    }

-- so many origins lead from a place to the first
pub depth : (t : Task) (limit : ℕ) (ns : List Node) (taken : ℕ → Bool) (done : ℕ → ℕ → Type 0) (m : ℕ) → Ready t limit ns taken done m
    → (i : ℕ) → i < length ns → (n : ℕ) × (n ≤ m) × (rooted ns n i ≡ true)
depth t limit ns taken done m R i h = go (ℕ_discrete i 0)
  where
    go : Dec (i ≡ 0) → (n : ℕ) × (n ≤ m) × (rooted ns n i ≡ true)
    go (yes q) = (0, omega arith, eq-eqb i 0 q)
    go (no q) =
        let r = R.shallow (node_at ns i).origin (R.linked i h q).0 in
        (suc r.0, r.1, rw (ne_eqb i 0 q) r.2)

pub applies_below : (t : Task) (s : State) (k : ℕ) → applies t s k ≡ true → k < action_count t
applies_below t s k a = ltb-true k (action_count t) (both_true (ltb k (action_count t)) (is_true s (action_at t k).precondition) a).0

-- x stands at place j of the new list, and all else as before
pub record Put (ns new : List Node) (x : Node) (j : ℕ) : Type 0 where
  pub longer : length ns ≤ length new
  pub inside : j < length new
  pub here : node_at new j ≡ x
  pub others : (l : ℕ) → (l ≡ j → ⊥) → l < length new → (l < length ns) × (node_at new l ≡ node_at ns l)
  pub lower : j < length ns → ((node_at ns j).state ≡ x.state) × (x.cost ≤ (node_at ns j).cost)
  pub fresh : (l : ℕ) → (l ≡ j → ⊥) → l < length ns → (node_at ns l).state ≡ x.state → ⊥

-- a linked node put at an open place, other than the first, that costs no less than the taken ones
module _ (t : Task) (limit : ℕ) (ns new : List Node) (taken : ℕ → Bool) (done : ℕ → ℕ → Type 0) (m : ℕ) (x : Node) (j : ℕ)
    (R : Ready t limit ns taken done m) (P : Put ns new x j) (fits : length new ≤ limit) (later : j ≡ 0 → ⊥)
    (free : taken j ≡ false) (b : Below t.facts x.state) (from : taken x.origin ≡ true) (link : Linked t ns x)
    (dear : (i : ℕ) → taken i ≡ true → (node_at ns i).cost ≤ x.cost) where
  apart : (i : ℕ) → taken i ≡ true → i ≡ j → ⊥
  apart i e q = not_both (sym (ap taken q) ∙ e) free

  grown : (i : ℕ) → i < length ns → i < length new
  grown i h = omega (arith, P.longer)

  -- what stands at a taken place
  pub kept : (i : ℕ) → taken i ≡ true → node_at new i ≡ node_at ns i
  kept i e = (P.others i (apart i e) (grown i (R.within i e))).1

  old_state : (l : ℕ) → l < length ns → (node_at new l).state ≡ (node_at ns l).state
  old_state l h = go (ℕ_discrete l j)
    where
      go : Dec (l ≡ j) → (node_at new l).state ≡ (node_at ns l).state
      go (yes q) =
          ap (λ (i : ℕ). (node_at new i).state) q ∙ ap (λ (n : Node). n.state) P.here
          ∙ sym (P.lower (subst (λ (i : ℕ). i < length ns) q h)).0 ∙ ap (λ (i : ℕ). (node_at ns i).state) (sym q)
      go (no q) = ap (λ (n : Node). n.state) (P.others l q (grown l h)).1

  old_cost : (l : ℕ) → l < length ns → (node_at new l).cost ≤ (node_at ns l).cost
  old_cost l h = go (ℕ_discrete l j)
    where
      go : Dec (l ≡ j) → (node_at new l).cost ≤ (node_at ns l).cost
      go (yes q) = rw (q, P.here) (P.lower (subst (λ (i : ℕ). i < length ns) q h)).1
      go (no q) = rw (P.others l q (grown l h)).1 (omega arith)

  kept_link : (y : Node) → taken y.origin ≡ true → Linked t ns y → Linked t new y
  kept_link y e l =
      record {
        applied = rw (kept y.origin e) l.applied;
        leads = rw (kept y.origin e) l.leads;
        costs = rw (kept y.origin e) l.costs;
      }

  new_below : (l : ℕ) → l < length new → Below t.facts (node_at new l).state
  new_below l h = go (ℕ_discrete l j)
    where
      go : Dec (l ≡ j) → Below t.facts (node_at new l).state
      go (yes q) = rw (q, P.here) b
      go (no q) = rw (P.others l q h).1 (R.below l (P.others l q h).0)

  new_distinct : (i l : ℕ) → i < length new → l < length new → (node_at new i).state ≡ (node_at new l).state → i ≡ l
  new_distinct i l h g e = go (ℕ_discrete i j) (ℕ_discrete l j)
    where
      state_at : (k : ℕ) → k ≡ j → (node_at new k).state ≡ x.state
      state_at k q = rw (q, P.here)

      other : (k : ℕ) → (q : k ≡ j → ⊥) → (d : k < length new) → (node_at new k).state ≡ x.state → ⊥
      other k q d s = P.fresh k q (P.others k q d).0 (sym (ap (λ (n : Node). n.state) (P.others k q d).1) ∙ s)

      go : Dec (i ≡ j) → Dec (l ≡ j) → i ≡ l
      go (yes p) (yes q) = p ∙ sym q
      go (yes p) (no q) = absurd (other l q g (sym e ∙ state_at i p))
      go (no p) (yes q) = absurd (other i p h (e ∙ state_at l q))
      go (no p) (no q) =
          R.distinct i l (P.others i p h).0 (P.others l q g).0
          (sym (ap (λ (n : Node). n.state) (P.others i p h).1) ∙ e ∙ ap (λ (n : Node). n.state) (P.others l q g).1)

  new_linked : (l : ℕ) → l < length new → (l ≡ 0 → ⊥) → (taken (node_at new l).origin ≡ true) × Linked t new (node_at new l)
  new_linked l h z = go (ℕ_discrete l j)
    where
      go : Dec (l ≡ j) → (taken (node_at new l).origin ≡ true) × Linked t new (node_at new l)
      go (yes q) = rw (q, P.here) (from, kept_link x from link)
      go (no q) =
          let r : (taken (node_at ns l).origin ≡ true) × Linked t ns (node_at ns l) = R.linked l (P.others l q h).0 z in
          rw (P.others l q h).1 (r.0, kept_link (node_at ns l) r.0 r.1)

  new_rooted : (n l : ℕ) → taken l ≡ true → rooted ns n l ≡ true → rooted new n l ≡ true
  new_rooted zero l e r = r
  new_rooted (suc n) l e r = go (eqb l 0) refl r (new_rooted n (node_at ns l).origin)
    where
      go : (z : Bool) → eqb l 0 ≡ z → (z || rooted ns n (node_at ns l).origin) ≡ true
          → (taken (node_at ns l).origin ≡ true → rooted ns n (node_at ns l).origin ≡ true → rooted new n (node_at ns l).origin ≡ true)
          → (z || rooted new n (node_at new l).origin) ≡ true
      go true z r deeper = refl
      go false z r deeper = rw (kept l e) (deeper (R.linked l (R.within l e) (eqb-false l 0 z)).0 r)

  new_ordered : (i l : ℕ) → taken i ≡ true → l < length new → taken l ≡ false → (node_at new i).cost ≤ (node_at new l).cost
  new_ordered i l e h o = rw (kept i e) (go (ℕ_discrete l j))
    where
      go : Dec (l ≡ j) → (node_at ns i).cost ≤ (node_at new l).cost
      go (yes q) = rw (q, P.here) (dear i e)
      go (no q) = rw (P.others l q h).1 (R.ordered i l e (P.others l q h).0 o)

  still_entered : (y : Node) (k : ℕ) → Entered t ns y k → Entered t new y k
  still_entered y k (l, h, s, c) = (l, grown l h, old_state l h ∙ s, omega (arith, old_cost l h))

  pub put_ready : Ready t limit new taken done m
  put_ready =
      record {
        some = omega (arith, R.some, P.longer);
        room = fits;
        first = (P.others 0 (λ q. later (sym q)) (grown 0 R.some)).1 ∙ R.first;
        below = new_below;
        distinct = new_distinct;
        within = λ i e. grown i (R.within i e);
        linked = new_linked;
        shallow = λ i e. let r = R.shallow i e in (r.0, r.1, new_rooted r.0 i e r.2);
        ordered = new_ordered;
        closed = λ i k e d a. rw (kept i e) (still_entered (node_at ns i) k (R.closed i k e d (rw (kept i e) at a)));
        unmet = λ i e. rw (kept i e) (R.unmet i e);
        counted = R.counted;
      }

  -- and x is entered
  pub put_entered : (y : Node) (k : ℕ) → x.state ≡ after y.state (action_at t k) → x.cost ≡ y.cost + (action_at t k).cost → Entered t new y k
  put_entered y k s c = (j, P.inside, ap (λ (n : Node). n.state) P.here ∙ s, rw P.here (omega arith))
