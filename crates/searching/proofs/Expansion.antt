-- The actions of a taken place, tried in turn.
use mathlib.Core.Path.{◌≡◌, refl, sym, ◌∙◌, ap, subst}
use mathlib.Core.Bool.{Bool, true, false}
use mathlib.Core.List.{List, [], ◌++◌}
use Prim.Native.Nat.{ℕ, suc, ◌<◌, ◌≤◌}
use native.Mathlib.Decide.{ℕ_discrete}
use native.Mathlib.Omega.{arith}
use lib.Dec.{T}
use lib.ListN.{length, set, length-set, length-append, get_or-append}
use lib.Seq.{get_or-set_same, get_or-set_other, get_or-append_seam}
use Rattle.lists.specs.Lists.{singleton}
use Rattle.meaning.specs.Task.{Task, well_formed}
use Rattle.meaning.specs.Meaning.{after, action_at, applies}
use Rattle.searching.specs.Search.{Node, no_node, node_at, stepped}
use Rattle.searching.specs.States.{Below}
use Rattle.searching.proofs.States.{after_below}
use Rattle.searching.proofs.Meeting.{Met, left, replaced, added}
use Rattle.searching.proofs.Invariant.{Upto, Ready, Linked, Entered, Put, applies_below, redone, kept, put_ready, put_entered}

-- The two ways in which x gets into the list

put_replaced : (ns : List Node) (x : Node) (j : ℕ)
    → ((i l : ℕ) → i < length ns → l < length ns → (node_at ns i).state ≡ (node_at ns l).state → i ≡ l)
    → j < length ns → (node_at ns j).state ≡ x.state → x.cost < (node_at ns j).cost → Put ns (set ns j x) x j
put_replaced ns x j distinct h s c =
    record {
      longer = rw (length-set ns j x) (omega arith);
      inside = rw (length-set ns j x) h;
      here = get_or-set_same ns j x no_node h;
      others = λ l q g. (rw (length-set ns j x) at g, get_or-set_other ns j l x no_node q);
      lower = λ g. (s, omega arith);
      fresh = λ l q g e. q (distinct l j g h (e ∙ sym s));
    }

put_added : (ns : List Node) (x : Node) → ((j : ℕ) → j < length ns → (node_at ns j).state ≡ x.state → ⊥)
    → Put ns (ns ++ singleton x) x (length ns)
put_added ns x f =
    record {
      longer = omega (arith, length-append ns (singleton x));
      inside = omega (arith, length-append ns (singleton x));
      here = get_or-append_seam ns x [] no_node;
      others = λ l q g. let h : l < length ns = omega (arith, length-append ns (singleton x)) in (h, get_or-append ns (singleton x) no_node l h);
      lower = λ g. absurd (omega arith);
      fresh = λ l q g e. f l g e;
    }

-- place i holds x, and its actions below n have been tried
pub record Midway (t : Task) (limit : ℕ) (taken : ℕ → Bool) (m i : ℕ) (x : Node) (n : ℕ) (ns : List Node) : Type 0 where
  pub ready : Ready t limit ns taken (Upto i n) m
  pub here : node_at ns i ≡ x
  pub top : (j : ℕ) → taken j ≡ true → (node_at ns j).cost ≤ x.cost

-- an action leads from a node of the list to a state that has no entry
pub record Crowded (t : Task) (ns : List Node) : Type 0 where
  pub place : ℕ
  pub action : ℕ
  pub inside : place < length ns
  pub applied : applies t (node_at ns place).state action ≡ true
  pub no_entry : (j : ℕ) → j < length ns → (node_at ns j).state ≡ after (node_at ns place).state (action_at t action) → ⊥

module _ (t : Task) (wf : T (well_formed t)) (limit : ℕ) (taken : ℕ → Bool) (m i : ℕ) (x : Node) (is_taken : taken i ≡ true) where
  -- one action more
  pub onwards : (k : ℕ) (ns : List Node) → Ready t limit ns taken (Upto i k) m → node_at ns i ≡ x
      → (applies t x.state k ≡ true → Entered t ns x k) → Ready t limit ns taken (Upto i (suc k)) m
  onwards k ns R e f =
      redone t limit ns taken (Upto i k) (Upto i (suc k)) m R
      (λ j a h d p. go j a h d p (ℕ_discrete j i) (ℕ_discrete a k))
    where
      go : (j a : ℕ) → taken j ≡ true → (j ≡ i → a < suc k) → applies t (node_at ns j).state a ≡ true
          → Dec (j ≡ i) → Dec (a ≡ k) → Entered t ns (node_at ns j) a
      go j a h d p (yes q) (yes r) =
          let z : node_at ns j ≡ x = ap (node_at ns) q ∙ e in
          rw (z, r) (f (rw (z, r) at p))
      go j a h d p (yes q) (no r) = R.closed j a h (λ z. let l : a < suc k = d z in omega arith) p
      go j a h d p (no q) r = R.closed j a h (λ z. absurd (q z)) p

  -- action k applies and leads to a node that is met
  module _ (k : ℕ) (ns : List Node) (M : Midway t limit taken m i x k ns) (a : applies t x.state k ≡ true) where
    abbrev y : Node
    y = stepped t i x k

    pub y_below : Below t.facts y.state
    y_below =
        after_below t wf x.state k (applies_below t x.state k a)
        (subst (λ (n : Node). Below t.facts n.state) M.here (M.ready.below i (M.ready.within i is_taken)))

    y_linked : Linked t ns y
    y_linked = record { applied = rw M.here a; leads = rw M.here; costs = rw M.here }

    y_dear : (j : ℕ) → taken j ≡ true → (node_at ns j).cost ≤ y.cost
    y_dear j e = omega (arith, M.top j e)

    put_midway : (new : List Node) (j : ℕ) → Put ns new y j → length new ≤ limit → (j ≡ 0 → ⊥) → taken j ≡ false
        → Midway t limit taken m i x (suc k) new
    put_midway new j P fits later free =
        record {
          ready =
              onwards k new
              (put_ready t limit ns new taken (Upto i k) m y j M.ready P fits later free y_below is_taken y_linked y_dear)
              (same_at i is_taken ∙ M.here)
              (λ p. put_entered t limit ns new taken (Upto i k) m y j M.ready P fits later free y_below is_taken y_linked y_dear x k refl refl);
          here = same_at i is_taken ∙ M.here;
          top = λ l e. rw (same_at l e) (M.top l e);
        }
      where
        same_at : (l : ℕ) → taken l ≡ true → node_at new l ≡ node_at ns l
        same_at = kept t limit ns new taken (Upto i k) m y j M.ready P fits later free y_below is_taken y_linked y_dear

    -- a place whose node costs more than y is open, and is not the first
    dear_open : (j : ℕ) → y.cost < (node_at ns j).cost → taken j ≡ false
    dear_open j c = go (taken j) refl
      where
        go : (b : Bool) → taken j ≡ b → b ≡ false
        go true e = absurd (omega (arith, y_dear j e))
        go false e = refl

    dear_later : (j : ℕ) → y.cost < (node_at ns j).cost → j ≡ 0 → ⊥
    dear_later j c q =
        let z : (node_at ns j).cost ≡ 0 = ap (λ (l : ℕ). (node_at ns l).cost) q ∙ ap (λ (n : Node). n.cost) M.ready.first in
        omega arith

    -- and so is the place after the last
    end_open : taken (length ns) ≡ false
    end_open = go (taken (length ns)) refl
      where
        go : (b : Bool) → taken (length ns) ≡ b → b ≡ false
        go true e = absurd (omega (arith, M.ready.within (length ns) e))
        go false e = refl

    pub met_midway : (new : List Node) → Met ns y new → length new ≤ limit → Midway t limit taken m i x (suc k) new
    met_midway new (left j h s c e) fits =
        subst (Midway t limit taken m i x (suc k)) (sym e)
        (record { ready = onwards k ns M.ready M.here (λ p. (j, h, s, c)); here = M.here; top = M.top })
    met_midway new (replaced j h s c e) fits =
        subst (Midway t limit taken m i x (suc k)) (sym e)
        (put_midway (set ns j y) j (put_replaced ns y j M.ready.distinct h s c) (rw e at fits) (dear_later j c) (dear_open j c))
    met_midway new (added f e) fits =
        subst (Midway t limit taken m i x (suc k)) (sym e)
        (put_midway (ns ++ singleton y) (length ns) (put_added ns y f) (rw e at fits) (λ q. omega (arith, M.ready.some)) end_open)

    pub met_crowded : (new : List Node) → Met ns y new → limit < length new → (length ns ≡ limit) × Crowded t ns
    met_crowded new (left j h s c e) over = absurd (omega (arith, M.ready.room, ap length e))
    met_crowded new (replaced j h s c e) over = absurd (omega (arith, M.ready.room, ap length e, length-set ns j y))
    met_crowded new (added f e) over = (
      omega (arith, M.ready.room, ap length e, length-append ns (singleton y)),
      record {
        place = i;
        action = k;
        inside = M.ready.within i is_taken;
        applied = rw M.here a;
        no_entry = λ j h s. f j h (s ∙ ap (λ (n : Node). after n.state (action_at t k)) M.here);
      },
    )
