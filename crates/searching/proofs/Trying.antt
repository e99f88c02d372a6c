-- All the actions of a taken place: the search is ready again, or the list is full.
use mathlib.Core.Path.{◌≡◌, refl}
use mathlib.Core.Bool.{Bool, true, false, not, cond, ◌&&◌}
use mathlib.Core.List.{List}
use Prim.Native.Nat.{ℕ, zero, suc}
use lib.Dec.{T, leb}
use lib.ListN.{length}
use borrow.Author.Tests.{leb-true, leb-false}
use Rattle.meaning.specs.Task.{Task, well_formed}
use Rattle.meaning.specs.Meaning.{applies}
use Rattle.lists.proofs.Tests.{not_both}
use Rattle.meaning.proofs.WellFormed.{action_count}
use Rattle.searching.specs.Search.{Node, node_at, meet, stepped, Kept, fit, try_action, tried}
use Rattle.searching.proofs.Meeting.{Met, met}
use Rattle.searching.proofs.Invariant.{Every, Upto, Ready, redone, applies_below}
use Rattle.searching.proofs.Expansion.{Midway, Crowded, onwards, y_below, met_midway, met_crowded}

-- what is kept after the actions below n
pub data Progress (t : Task) (limit : ℕ) (taken : ℕ → Bool) (m i : ℕ) (x : Node) (n : ℕ) (K : Kept) : Type 0 where
  going : K.full ≡ false → Midway t limit taken m i x n K.nodes → Progress t limit taken m i x n K
  stuck : K.full ≡ true → (k : ℕ) → Midway t limit taken m i x k K.nodes → length K.nodes ≡ limit → Crowded t K.nodes
      → Progress t limit taken m i x n K

module _ (t : Task) (wf : T (well_formed t)) (limit : ℕ) (taken : ℕ → Bool) (m i : ℕ) (x : Node) (is_taken : taken i ≡ true) where
  fitted : (k : ℕ) (ns : List Node) → Midway t limit taken m i x k ns → applies t x.state k ≡ true → (new : List Node)
      → Met ns (stepped t i x k) new → Progress t limit taken m i x (suc k) (fit limit ns new)
  fitted k ns M a new w = go (leb (length new) limit) refl
    where
      go : (b : Bool) → leb (length new) limit ≡ b
          → Progress t limit taken m i x (suc k) (cond b (record { nodes = new; full = false }) (record { nodes = ns; full = true }))
      go true e = going refl (met_midway t wf limit taken m i x is_taken k ns M a new w (leb-true (length new) limit e))
      go false e =
          let r = met_crowded t wf limit taken m i x is_taken k ns M a new w (leb-false (length new) limit e) in
          stuck refl k M r.0 r.1

  one_more : (k : ℕ) (K : Kept) → Progress t limit taken m i x k K → Progress t limit taken m i x (suc k) (try_action t limit i x k K)
  one_more k K (stuck e n M l c) = rw e (stuck refl n M l c)
  one_more k K (going e M) = go (applies t x.state k) refl
    where
      go : (b : Bool) → applies t x.state k ≡ b
          → Progress t limit taken m i x (suc k)
          (cond (not K.full && b) (fit limit K.nodes (meet t.facts K.nodes (stepped t i x k))) K)
      go true a =
          rw e
          (fitted k K.nodes M a (meet t.facts K.nodes (stepped t i x k))
          (met t.facts K.nodes (stepped t i x k) M.ready.below (y_below t wf limit taken m i x is_taken k K.nodes M a)))
      go false a =
          rw e
          (going refl (record {
            ready = onwards t wf limit taken m i x is_taken k K.nodes M.ready M.here (λ p. absurd (not_both p a));
            here = M.here;
            top = M.top;
          }))

  pub progress : (ns : List Node) → Midway t limit taken m i x 0 ns → (n : ℕ) → Progress t limit taken m i x n (tried t limit i x ns n)
  progress ns M zero = going refl M
  progress ns M (suc n) = one_more n (tried t limit i x ns n) (progress ns M n)

-- where all the actions have been tried
pub all_tried : (t : Task) (limit : ℕ) (taken : ℕ → Bool) (m i : ℕ) (ns : List Node)
    → Ready t limit ns taken (Upto i (action_count t)) m → Ready t limit ns taken Every m
all_tried t limit taken m i ns R =
    redone t limit ns taken (Upto i (action_count t)) Every m R
    (λ j k e d a. R.closed j k e (λ q. applies_below t (node_at ns j).state k a) a)
