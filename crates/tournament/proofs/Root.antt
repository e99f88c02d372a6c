-- The root's entry is the cheapest open place, the first of those that cost least.
use mathlib.Core.Path.{◌≡◌, refl, sym, ◌∙◌, ap, subst}
use mathlib.Core.Logic.{◌⊎◌, inl, inr}
use mathlib.Core.Bool.{Bool, true, false, cond, not, ◌&&◌}
use mathlib.Core.List.{List}
use mathlib.Core.Option.{Option, none, some}
use Prim.Native.Nat.{ℕ, zero, suc, ◌+◌, ◌-◌, ◌*◌, ◌/◌, ◌≤◌, ◌<◌}
use native.Mathlib.Decide.{ℕ_discrete, dec_lt}
use native.Mathlib.Omega.{arith}
use lib.Dec.{ltb}
use borrow.Author.Tests.{ltb-true, ltb-false, lt-ltb, not-true}
use Rattle.lists.proofs.Tests.{both_true}
use Rattle.searching.specs.Search.{Node, node_at, cheapest}
use Rattle.searching.proofs.Choice.{Chosen, chosen}
use Rattle.tournament.specs.Tournament.{cost_at, cheaper, entry_at, Game, up, Nowhere, Played, as_choice}
use Rattle.tournament.proofs.Games.{cheaper_one, up_half}
use Rattle.tournament.proofs.Owners.{game_at, leaf_says}

up_mono : (f a b : ℕ) → a ≤ b → up f a ≤ up f b
up_mono zero a b h = h
up_mono (suc f) a b h = up_mono f (a / 2) (b / 2) (omega arith)

-- how many nodes are d below the root
abbrev width : ℕ → ℕ
width zero = 1
width (suc d) = 2 * width d

some_width : (d : ℕ) → 1 ≤ width d
some_width zero = omega arith
some_width (suc d) = omega (arith, some_width d)

width_mono : (a b : ℕ) → a ≤ b → width a ≤ width b
width_mono zero b h = some_width b
width_mono (suc a) zero h = absurd (omega arith)
width_mono (suc a) (suc b) h = omega (arith, width_mono a b (omega arith))

-- above the leaves
inner : (f d : ℕ) → d + suc f ≡ 10 → width d ≤ 512
inner f d e = width_mono d 9 (omega arith)

-- the entry's node comes before p: it costs less, or as much and stands not after it
abbrev Beats : List ℕ → ℕ → ℕ → Type 0
Beats ws e p = (w : ℕ) × (e ≡ suc w) × (cost_at ws w ≤ cost_at ws p) × (p < w → cost_at ws w < cost_at ws p)

module _ (tree ws : List ℕ) (o : ℕ → Bool) (P : Played tree ws o Nowhere) where
  -- of a node that is f above the leaves: its entry comes from a leaf under it, and beats each open one there
  record Best (f k : ℕ) : Type 0 where
    owned : (w : ℕ) → entry_at tree k ≡ suc w → (up f (1024 + w) ≡ k) × (o w ≡ true) × (w < 1024)
    beats : (p : ℕ) → p < 1024 → o p ≡ true → up f (1024 + p) ≡ k → Beats ws (entry_at tree k) p

  leaf_best : (k q : ℕ) → 1024 + q ≡ k → q < 1024 → Best 0 k
  leaf_best k q at h =
      record {
        owned = λ w e.
            let s = leaf_says (o q) q w (sym entry ∙ e) in
            (omega (arith, s.1), subst (λ (x : ℕ). o x ≡ true) s.1 s.0, omega (arith, s.1));
        beats = λ p l t e.
            let same : q ≡ p = omega arith in
            (p, entry ∙ ap (λ (x : ℕ). cond (o x) (suc x) 0) same ∙ ap (λ (b : Bool). cond b (suc p) 0) t, omega arith, λ z. absurd (omega arith));
      }
    where
      entry : entry_at tree k ≡ cond (o q) (suc q) 0
      entry = ap (entry_at tree) (sym at) ∙ P.leaves q h

  -- the game of two nodes on one level
  module _ (f k : ℕ) (left : Best f (2 * k)) (right : Best f (2 * k + 1)) (game : Game tree ws k) where
    climbed : (w c : ℕ) → c / 2 ≡ k → up f (1024 + w) ≡ c → up (suc f) (1024 + w) ≡ k
    climbed w c h e = up_half f (1024 + w) ∙ ap (λ (x : ℕ). x / 2) e ∙ h

    game_owned : (w : ℕ) → entry_at tree k ≡ suc w → (up (suc f) (1024 + w) ≡ k) × (o w ≡ true) × (w < 1024)
    game_owned w e = go (cheaper_one ws (entry_at tree (2 * k)) (entry_at tree (2 * k + 1)))
      where
        go : (cheaper ws (entry_at tree (2 * k)) (entry_at tree (2 * k + 1)) ≡ entry_at tree (2 * k))
            ⊎ (cheaper ws (entry_at tree (2 * k)) (entry_at tree (2 * k + 1)) ≡ entry_at tree (2 * k + 1))
            → (up (suc f) (1024 + w) ≡ k) × (o w ≡ true) × (w < 1024)
        go (inl c) = let t = left.owned w (sym c ∙ sym game ∙ e) in (climbed w (2 * k) (omega arith) t.0, t.1, t.2)
        go (inr c) = let t = right.owned w (sym c ∙ sym game ∙ e) in (climbed w (2 * k + 1) (omega arith) t.0, t.1, t.2)

    -- what is under the left node stands before what is under the right one
    before : (w p : ℕ) → up f (1024 + w) ≡ 2 * k → up f (1024 + p) ≡ 2 * k + 1 → p < w → ⊥
    before w p a b l = omega (arith, up_mono f (1024 + p) (1024 + w) (omega arith))

    beats_left : (p : ℕ) → Beats ws (entry_at tree (2 * k)) p → Beats ws (cheaper ws (entry_at tree (2 * k)) (entry_at tree (2 * k + 1))) p
    beats_left p (w, e, c, s) = rw e (go (entry_at tree (2 * k + 1)))
      where
        go : (b : ℕ) → Beats ws (cheaper ws (suc w) b) p
        go zero = (w, refl, c, s)
        go (suc v) = by (ltb (cost_at ws v) (cost_at ws w)) refl
          where
            by : (t : Bool) → ltb (cost_at ws v) (cost_at ws w) ≡ t → Beats ws (cond t (suc v) (suc w)) p
            by true t = (v, refl, omega (arith, ltb-true (cost_at ws v) (cost_at ws w) t), λ z. omega (arith, ltb-true (cost_at ws v) (cost_at ws w) t))
            by false t = (w, refl, c, s)

    beats_right : (p : ℕ) → up f (1024 + p) ≡ 2 * k + 1 → Beats ws (entry_at tree (2 * k + 1)) p
        → Beats ws (cheaper ws (entry_at tree (2 * k)) (entry_at tree (2 * k + 1))) p
    beats_right p u (v, e, c, s) = rw e (go (entry_at tree (2 * k)) refl)
      where
        go : (a : ℕ) → entry_at tree (2 * k) ≡ a → Beats ws (cheaper ws a (suc v)) p
        go zero q = (v, refl, c, s)
        go (suc w) q = by (ltb (cost_at ws v) (cost_at ws w)) refl
          where
            by : (t : Bool) → ltb (cost_at ws v) (cost_at ws w) ≡ t → Beats ws (cond t (suc v) (suc w)) p
            by true t = (v, refl, c, s)
            by false t =
                (w, refl, omega (arith, ltb-false (cost_at ws v) (cost_at ws w) t), λ l. absurd (before w p (left.owned w q).0 u l))

    game_best : Best (suc f) k
    game_best =
        record {
          owned = game_owned;
          beats = λ p l t e. subst (λ (x : ℕ). Beats ws x p) (sym game) (side p l t (up f (1024 + p)) refl (sym (up_half f (1024 + p)) ∙ e));
        }
      where
        side : (p : ℕ) → p < 1024 → o p ≡ true → (x : ℕ) → up f (1024 + p) ≡ x → x / 2 ≡ k
            → Beats ws (cheaper ws (entry_at tree (2 * k)) (entry_at tree (2 * k + 1))) p
        side p l t x u h = by (ℕ_discrete x (2 * k))
          where
            by : Dec (x ≡ 2 * k) → Beats ws (cheaper ws (entry_at tree (2 * k)) (entry_at tree (2 * k + 1))) p
            by (yes q) = beats_left p (left.beats p l t (u ∙ q))
            by (no q) = let r : x ≡ 2 * k + 1 = omega arith in beats_right p (u ∙ r) (right.beats p l t (u ∙ r))

  -- every node, d below the root and f above the leaves
  best_at : (f d : ℕ) → d + f ≡ 10 → (k : ℕ) → width d ≤ k → k < 2 * width d → Best f k
  best_at zero d e k h g =
      let ten : d ≡ 10 = omega arith in
      let w : width d ≡ 1024 = ap width ten in
      leaf_best k (k - 1024) (omega arith) (omega arith)
  best_at (suc f) d e k h g =
      let small : width d ≤ 512 = inner f d e in
      game_best f k (best_at f (suc d) (omega arith) (2 * k) (omega arith) (omega arith))
      (best_at f (suc d) (omega arith) (2 * k + 1) (omega arith) (omega arith))
      (game_at tree ws o P k (omega (arith, some_width d)) (omega arith))

  root_best : Best 10 1
  root_best = best_at 10 0 (omega arith) 1 (omega arith) (omega arith)

-- two choices that say the same are one
unique : (ns : List Node) (taken : ℕ → Bool) (n : ℕ) (a b : Option ℕ) → Chosen ns taken n a → Chosen ns taken n b → a ≡ b
unique ns taken n none none A B = refl
unique ns taken n none (some j) A B = absurd (A j B.within B.is_open)
unique ns taken n (some i) none A B = absurd (B i A.within A.is_open)
unique ns taken n (some i) (some j) A B = ap some (go (dec_lt i j) (dec_lt j i))
  where
    go : Dec (i < j) → Dec (j < i) → i ≡ j
    go (yes l) m = absurd (omega (arith, B.earliest i l A.is_open, A.least j B.within B.is_open))
    go (no l) (yes m) = absurd (omega (arith, A.earliest j m B.is_open, B.least i A.within A.is_open))
    go (no l) (no m) = omega arith

-- the choice among the nodes of the tree
module _ (tree ws : List ℕ) (ns : List Node) (taken : ℕ → Bool) (n : ℕ) (few : n ≤ 1024)
    (P : Played tree ws (λ q. ltb q n && not (taken q)) Nowhere) (priced : (q : ℕ) → q < n → (node_at ns q).cost ≡ cost_at ws q) where
  abbrev is_open : ℕ → Bool
  is_open q = ltb q n && not (taken q)

  opened : (q : ℕ) → q < n → taken q ≡ false → is_open q ≡ true
  opened q h e = rw (lt-ltb q n h, e)

  beaten : (q : ℕ) → q < n → taken q ≡ false → Beats ws (entry_at tree 1) q
  beaten q h e = (root_best tree ws is_open P).beats q (omega arith) (opened q h e) (omega arith)

  root_chosen : (e : ℕ) → entry_at tree 1 ≡ e → Chosen ns taken n (as_choice e)
  root_chosen zero r = λ j h t. let b = beaten j h t in absurd (omega (arith, b.1))
  root_chosen (suc w) r =
      let own = (root_best tree ws is_open P).owned w r in
      let t = both_true (ltb w n) (not (taken w)) own.1 in
      let h : w < n = ltb-true w n t.0 in
      record {
        within = h;
        is_open = not-true (taken w) t.1;
        least = λ j g u.
            let b = beaten j g u in
            let same : b.0 ≡ w = omega (arith, b.1) in
            omega (arith, priced w h, priced j g, b.2, ap (cost_at ws) same);
        earliest = λ j g u.
            let b = beaten j (omega arith) u in
            let same : b.0 ≡ w = omega (arith, b.1) in
            omega (arith, priced w h, priced j (omega arith), b.3 (omega arith), ap (cost_at ws) same);
      }

  pub root_cheapest : as_choice (entry_at tree 1) ≡ cheapest ns taken n
  root_cheapest = unique ns taken n (as_choice (entry_at tree 1)) (cheapest ns taken n) (root_chosen (entry_at tree 1) refl) (chosen ns taken n)
