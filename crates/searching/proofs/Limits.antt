-- Room for one node more: it is used where the list was full, and changes nothing where it was not.
use mathlib.Core.Path.{◌≡◌, refl, sym, ◌∙◌, ap, subst}
use mathlib.Core.Logic.{◌↔◌, ◌⊎◌, inl, inr}
use mathlib.Core.Bool.{Bool, true, false, not, cond, ◌&&◌, true≢false}
use mathlib.Core.List.{List, [], ◌++◌}
use mathlib.Core.Option.{Option, none, some}
use Prim.Native.Nat.{ℕ, zero, suc, ◌+◌, ◌<◌, ◌≤◌}
use native.Mathlib.Omega.{arith}
use lib.Dec.{T, leb}
use lib.ListN.{length, length-append, length-map}
use borrow.Author.Tests.{leb-true, leb-false, le-leb}
use Rattle.lists.specs.Lists.{singleton}
use Rattle.meaning.specs.Task.{Task, well_formed}
use Rattle.meaning.specs.Meaning.{is_true, applies}
use Rattle.lists.proofs.Tests.{not_both}
use Rattle.meaning.proofs.WellFormed.{action_count}
use Rattle.searching.specs.Search.{Node, opening_node, node_at, meet, stepped, Kept, fit, try_action, tried, cheapest, with_place, go_on, turn, turns}
use Rattle.searching.specs.Search.{explore, found, no_plan, full, Answer, answer}
use Rattle.searching.proofs.Order.{states, Begins, meet_order, try_begins, turns_begins}
use Rattle.searching.proofs.Choice.{Chosen, chosen}
use Rattle.searching.proofs.Invariant.{Every, Ready}
use Rattle.searching.proofs.Taking.{taken_now, turns_open}
use Rattle.searching.proofs.Turns.{taken_midway}
use Rattle.searching.proofs.Trying.{Progress, going, stuck, progress, all_tried}
use Rattle.searching.proofs.Explored.{first_ready, explored}

-- Lengths

states_length : (ns : List Node) → length (states ns) ≡ length ns
states_length ns = length-map ns (λ (n : Node). n.state)

longer : (ns new : List Node) → Begins (states ns) (states new) → length ns ≤ length new
longer ns new (more, e) = omega (arith, states_length ns, states_length new, ap length e, length-append (states ns) more)

meet-length : (F : ℕ) (ns : List Node) (x : Node) → length (meet F ns x) ≤ suc (length ns)
meet-length F ns x = go (meet_order F ns x)
  where
    go : (states (meet F ns x) ≡ states ns) ⊎ (states (meet F ns x) ≡ states ns ++ singleton x.state) → length (meet F ns x) ≤ suc (length ns)
    go (inl e) = omega (arith, states_length ns, states_length (meet F ns x), ap length e)
    go (inr e) = omega (arith, states_length ns, states_length (meet F ns x), ap length e, length-append (states ns) (singleton x.state))

-- Actions tried under both limits

-- what is kept, by whether the list was full and whether the action applies
abbrev offered : ℕ → Bool → Bool → List Node → List Node → Kept
offered limit f a ns new = cond (not f && a) (fit limit ns new) (record { nodes = ns; full = f })

offer_wider : (limit : ℕ) (f a : Bool) (ns new : List Node) → (offered limit f a ns new).full ≡ false
    → (f ≡ false) × (offered (suc limit) f a ns new ≡ offered limit f a ns new)
offer_wider limit true a ns new e = absurd (true≢false e)
offer_wider limit false false ns new e = (refl, refl)
offer_wider limit false true ns new e = (refl, go (leb (length new) limit) refl e)
  where
    go : (b : Bool) → leb (length new) limit ≡ b
        → (cond {A = Kept} b (record { nodes = new; full = false }) (record { nodes = ns; full = true })).full ≡ false
        → fit (suc limit) ns new ≡ cond b (record { nodes = new; full = false }) (record { nodes = ns; full = true })
    go true h e = rw (le-leb (length new) (suc limit) (omega (arith, leb-true (length new) limit h)))
    go false h e = absurd (true≢false e)

offer_room : (limit : ℕ) (f a : Bool) (ns new : List Node) → length ns ≤ limit → length (offered limit f a ns new).nodes ≤ limit
offer_room limit true a ns new h = h
offer_room limit false false ns new h = h
offer_room limit false true ns new h = go (leb (length new) limit) refl
  where
    go : (b : Bool) → leb (length new) limit ≡ b
        → length (cond {A = Kept} b (record { nodes = new; full = false }) (record { nodes = ns; full = true })).nodes ≤ limit
    go true e = leb-true (length new) limit e
    go false e = h

offer_over : (limit : ℕ) (f a : Bool) (ns new : List Node) → f ≡ false → length new ≤ suc limit → (offered limit f a ns new).full ≡ true
    → limit < length (offered (suc limit) f a ns new).nodes
offer_over limit true a ns new z h e = absurd (true≢false z)
offer_over limit false false ns new z h e = absurd (true≢false (sym e))
offer_over limit false true ns new z h e = rw (le-leb (length new) (suc limit) h) (go (leb (length new) limit) refl e)
  where
    go : (b : Bool) → leb (length new) limit ≡ b
        → (cond {A = Kept} b (record { nodes = new; full = false }) (record { nodes = ns; full = true })).full ≡ true → limit < length new
    go true l e = absurd (true≢false (sym e))
    go false l e = leb-false (length new) limit l

module _ (t : Task) (limit i : ℕ) (x : Node) where
  tried_room : (ns : List Node) → length ns ≤ limit → (n : ℕ) → length (tried t limit i x ns n).nodes ≤ limit
  tried_room ns h zero = h
  tried_room ns h (suc k) =
      offer_room limit (tried t limit i x ns k).full (applies t x.state k) (tried t limit i x ns k).nodes
      (meet t.facts (tried t limit i x ns k).nodes (stepped t i x k)) (tried_room ns h k)

  tried_wider : (ns : List Node) (n : ℕ) → (tried t limit i x ns n).full ≡ false → tried t (suc limit) i x ns n ≡ tried t limit i x ns n
  tried_wider ns zero e = refl
  tried_wider ns (suc k) e =
      let w =
      offer_wider limit (tried t limit i x ns k).full (applies t x.state k) (tried t limit i x ns k).nodes
      (meet t.facts (tried t limit i x ns k).nodes (stepped t i x k)) e in
      ap (try_action t (suc limit) i x k) (tried_wider ns k w.0) ∙ w.1

  tried_over : (ns : List Node) → length ns ≤ limit → (n : ℕ) → (tried t limit i x ns n).full ≡ true
      → limit < length (tried t (suc limit) i x ns n).nodes
  tried_over ns h zero e = absurd (true≢false (sym e))
  tried_over ns h (suc k) e = go (tried t limit i x ns k).full refl (tried_over ns h k)
    where
      go : (b : Bool) → (tried t limit i x ns k).full ≡ b
          → ((tried t limit i x ns k).full ≡ true → limit < length (tried t (suc limit) i x ns k).nodes)
          → limit < length (try_action t (suc limit) i x k (tried t (suc limit) i x ns k)).nodes
      go true f lower =
          let l : limit < length (tried t (suc limit) i x ns k).nodes = lower f in
          omega (
            arith,
            longer (tried t (suc limit) i x ns k).nodes (try_action t (suc limit) i x k (tried t (suc limit) i x ns k)).nodes
                (try_begins t (suc limit) i x k (tried t (suc limit) i x ns k)),
          )
      go false f lower =
          subst (λ (K : Kept). limit < length (try_action t (suc limit) i x k K).nodes) (sym (tried_wider ns k f))
          (offer_over limit (tried t limit i x ns k).full (applies t x.state k) (tried t limit i x ns k).nodes
          (meet t.facts (tried t limit i x ns k).nodes (stepped t i x k)) f
          (omega (arith, tried_room ns h k, meet-length t.facts (tried t limit i x ns k).nodes (stepped t i x k))) e)

-- The turns under both limits

-- b is what the search answers with room for one node more
abbrev pub Wider : ℕ → Answer → Answer → Type 0
Wider limit a b = ((a.outcome ≡ full → ⊥) × (b ≡ a)) ⊎ ((a.outcome ≡ full) × (limit < length b.nodes))

module _ (t : Task) (wf : T (well_formed t)) (limit : ℕ) where
  -- after the expansion of place i, which kept K, and W with room for one more
  gone_wider : (n : ℕ) (taken : ℕ → Bool) (i : ℕ) (K W : Kept)
      → (K.full ≡ false → (W ≡ K) × Wider limit (turns t limit n K.nodes (with_place i taken)) (turns t (suc limit) (suc n) K.nodes (with_place i taken)))
      → (K.full ≡ true → limit < length W.nodes)
      → Wider limit (go_on (turns t limit n) i taken K) (go_on (turns t (suc limit) (suc n)) i taken W)
  gone_wider n taken i K W f g = by_room K.full refl
    where
      grows : (b : Bool) → limit < length W.nodes
          → limit < length (cond b (answer full W.nodes) (turns t (suc limit) (suc n) W.nodes (with_place i taken))).nodes
      grows true h = h
      grows false h =
          omega (
            arith,
            longer W.nodes (turns t (suc limit) (suc n) W.nodes (with_place i taken)).nodes
                (turns_begins t (suc limit) (suc n) W.nodes (with_place i taken)),
          )

      by_room : (b : Bool) → K.full ≡ b
          → Wider limit (cond b (answer full K.nodes) (turns t limit n K.nodes (with_place i taken))) (go_on (turns t (suc limit) (suc n)) i taken W)
      by_room true e = inr (refl, grows W.full (g e))
      by_room false e =
          let same : go_on (turns t (suc limit) (suc n)) i taken W ≡ turns t (suc limit) (suc n) K.nodes (with_place i taken) =
          ap (go_on (turns t (suc limit) (suc n)) i taken) (f e).0
          ∙ ap (λ (b : Bool). cond b (answer full K.nodes) (turns t (suc limit) (suc n) K.nodes (with_place i taken))) e in
          subst (Wider limit (turns t limit n K.nodes (with_place i taken))) (sym same) (f e).1

  room_ready : (taken : ℕ → Bool) (m i : ℕ) (x : Node) (K : Kept) → Progress t limit taken m i x (action_count t) K → K.full ≡ false
      → Ready t limit K.nodes taken Every m
  room_ready taken m i x K (going e M) z = all_tried t limit taken m i K.nodes M.ready
  room_ready taken m i x K (stuck e k M l c) z = absurd (not_both e z)

  turn_wider : (n : ℕ) (ns : List Node) (taken : ℕ → Bool) (m : ℕ) → Ready t limit ns taken Every m
      → ((new : List Node) (more : ℕ → Bool) → Ready t limit new more Every (suc m)
      → Wider limit (turns t limit n new more) (turns t (suc limit) (suc n) new more))
      → (c : Option ℕ) → Chosen ns taken (length ns) c
      → Wider limit (turn t limit (turns t limit n) ns taken c) (turn t (suc limit) (turns t (suc limit) (suc n)) ns taken c)
  turn_wider n ns taken m R f none C = inl (λ e. true≢false (cc e), refl)
  turn_wider n ns taken m R f (some i) C = go (is_true (node_at ns i).state t.goal) refl
    where
      go : (b : Bool) → is_true (node_at ns i).state t.goal ≡ b
          → Wider limit
          (cond b (answer (found i) ns) (go_on (turns t limit n) i taken (tried t limit i (node_at ns i) ns (action_count t))))
          (cond b (answer (found i) ns) (go_on (turns t (suc limit) (suc n)) i taken (tried t (suc limit) i (node_at ns i) ns (action_count t))))
      go true g = inl (λ e. true≢false (cc e), refl)
      go false g =
          let P : Progress t limit (with_place i taken) (suc m) i (node_at ns i) (action_count t) (tried t limit i (node_at ns i) ns (action_count t)) =
          progress t wf limit (with_place i taken) (suc m) i (node_at ns i) (taken_now i taken) ns (taken_midway t limit ns taken m i R C g) (action_count t) in
          gone_wider n taken i (tried t limit i (node_at ns i) ns (action_count t)) (tried t (suc limit) i (node_at ns i) ns (action_count t))
          (λ e. (
            tried_wider t limit i (node_at ns i) ns (action_count t) e,
            f (tried t limit i (node_at ns i) ns (action_count t)).nodes (with_place i taken)
                (room_ready (with_place i taken) (suc m) i (node_at ns i) (tried t limit i (node_at ns i) ns (action_count t)) P e),
          ))
          (tried_over t limit i (node_at ns i) ns R.room (action_count t))

  -- where no turn is left, no place is open
  none_left : (ns : List Node) (taken : ℕ → Bool) (m : ℕ) → Ready t limit ns taken Every m → limit ≤ m
      → (c : Option ℕ) → Chosen ns taken (length ns) c → turn t (suc limit) (turns t (suc limit) zero) ns taken c ≡ answer no_plan ns
  none_left ns taken m R h none C = refl
  none_left ns taken m R h (some i) C =
      let l : m < length ns = turns_open t limit ns taken Every m R i C.within C.is_open in
      absurd (omega (arith, R.room))

  turns_wider : (n : ℕ) (ns : List Node) (taken : ℕ → Bool) (m : ℕ) → Ready t limit ns taken Every m → limit ≤ m + n
      → Wider limit (turns t limit n ns taken) (turns t (suc limit) (suc n) ns taken)
  turns_wider zero ns taken m R h =
      inl (λ e. true≢false (cc e), none_left ns taken m R (omega arith) (cheapest ns taken (length ns)) (chosen ns taken (length ns)))
  turns_wider (suc n) ns taken m R h =
      turn_wider n ns taken m R (λ new more r. turns_wider n new more (suc m) r (omega arith)) (cheapest ns taken (length ns)) (chosen ns taken (length ns))

  -- The whole search

  module _ (h : 1 ≤ limit) where
    wider : Wider limit (explore t limit) (explore t (suc limit))
    unfolding explore
    wider = turns_wider limit (singleton (opening_node t)) (λ i. false) 0 (first_ready t wf limit h) (omega arith)

    -- full is answered exactly where the search would find a node more than the limit
    pub full_iff : t.preferences ≡ [] → ((explore t limit).outcome ≡ full) ↔ (limit < length (explore t (suc limit)).nodes)
    full_iff plain = (there wider, back wider)
      where
        there : Wider limit (explore t limit) (explore t (suc limit)) → (explore t limit).outcome ≡ full → limit < length (explore t (suc limit)).nodes
        there (inl (f, e)) o = absurd (f o)
        there (inr (e, l)) o = l

        back : Wider limit (explore t limit) (explore t (suc limit)) → limit < length (explore t (suc limit)).nodes → (explore t limit).outcome ≡ full
        back (inl (f, e)) l =
            absurd (omega (arith, (explored t wf limit h plain).listed.room, ap (λ (a : Answer). length a.nodes) e))
        back (inr (e, l)) o = e

    -- otherwise a greater limit changes nothing
    pub room_same : ((explore t limit).outcome ≡ full → ⊥) → explore t (suc limit) ≡ explore t limit
    room_same z = go wider
      where
        go : Wider limit (explore t limit) (explore t (suc limit)) → explore t (suc limit) ≡ explore t limit
        go (inl (f, e)) = e
        go (inr (e, l)) = absurd (z e)
