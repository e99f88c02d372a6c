-- An entry of the tree comes from its own leaf: what changes when a leaf or a node does.
use mathlib.Core.Path.{◌≡◌, refl, sym, ◌∙◌, ap, ap₂, subst}
use mathlib.Core.Logic.{◌⊎◌, inl, inr}
use mathlib.Core.Bool.{Bool, true, false, cond}
use mathlib.Core.List.{List}
use Prim.Native.Nat.{ℕ, zero, suc, ◌+◌, ◌-◌, ◌*◌, ◌/◌, ◌≤◌, ◌<◌}
use native.Mathlib.Decide.{ℕ_discrete, dec_lt}
use native.Mathlib.Omega.{arith}
use lib.Dec.{ltb}
use lib.ListN.{length, set, length-set}
use lib.Seq.{get_or-set_same, get_or-set_other}
use borrow.Author.Tests.{eq-eqb, ne_eqb}
use Rattle.node_words.specs.Words.{Placed, packed_at}
use Rattle.node_words.specs.declared.Packed.{Packed}
use Rattle.tournament.specs.Tournament.{cheaper, entry_at, Game, OnWay, Nowhere, Known, Played, with_leaf}
use Rattle.tournament.proofs.Games.{cheaper_one, up_half}

-- a leaf that has place p is p's, and p is open
pub leaf_says : (b : Bool) (q p : ℕ) → cond b (suc q) 0 ≡ suc p → (b ≡ true) × (q ≡ p)
leaf_says true q p e = (refl, omega arith)
leaf_says false q p e = absurd (omega arith)

module _ (tree ws : List ℕ) (o : ℕ → Bool) (P : Played tree ws o Nowhere) where
  abbrev Owned : ℕ → ℕ → Type 0
  Owned p k = (o p ≡ true) × (p < 1024) × OnWay (1024 + p) k

  from_child : (p k c : ℕ) → c / 2 ≡ k → Owned p c → Owned p k
  from_child p k c h (t, l, (f, e)) = (t, l, (suc f, up_half f (1024 + p) ∙ ap (λ (x : ℕ). x / 2) e ∙ h))

  pub game_at : (k : ℕ) → 1 ≤ k → k < 1024 → Game tree ws k
  game_at k h g = go (P.games k h g)
    where
      go : Nowhere k ⊎ Game tree ws k → Game tree ws k
      go (inl z) = absurd z
      go (inr e) = e

  owner_by : (m k p : ℕ) → 2048 ≤ k + m → 1 ≤ k → k < 2048 → entry_at tree k ≡ suc p → Owned p k
  owner_by zero k p a h g e = absurd (omega arith)
  owner_by (suc m) k p a h g e = go (dec_lt k 1024) (owner_by m (2 * k) p) (owner_by m (2 * k + 1) p)
    where
      go : Dec (k < 1024)
          → (2048 ≤ 2 * k + m → 1 ≤ 2 * k → 2 * k < 2048 → entry_at tree (2 * k) ≡ suc p → Owned p (2 * k))
          → (2048 ≤ 2 * k + 1 + m → 1 ≤ 2 * k + 1 → 2 * k + 1 < 2048 → entry_at tree (2 * k + 1) ≡ suc p → Owned p (2 * k + 1))
          → Owned p k
      go (yes l) f r = by (cheaper_one ws (entry_at tree (2 * k)) (entry_at tree (2 * k + 1)))
        where
          by : (cheaper ws (entry_at tree (2 * k)) (entry_at tree (2 * k + 1)) ≡ entry_at tree (2 * k))
              ⊎ (cheaper ws (entry_at tree (2 * k)) (entry_at tree (2 * k + 1)) ≡ entry_at tree (2 * k + 1)) → Owned p k
          by (inl c) = from_child p k (2 * k) (omega arith) (f (omega arith) (omega arith) (omega arith) (sym c ∙ sym (game_at k h l) ∙ e))
          by (inr c) = from_child p k (2 * k + 1) (omega arith) (r (omega arith) (omega arith) (omega arith) (sym c ∙ sym (game_at k h l) ∙ e))
      go (no l) f r =
          let at : 1024 + (k - 1024) ≡ k = omega arith in
          let s = leaf_says (o (k - 1024)) (k - 1024) p (sym (P.leaves (k - 1024) (omega arith)) ∙ ap (entry_at tree) at ∙ e) in
          (subst (λ (q : ℕ). o q ≡ true) s.1 s.0, omega (arith, s.1), (0, omega (arith, s.1)))

  pub owner : (k p : ℕ) → 1 ≤ k → k < 2048 → entry_at tree k ≡ suc p → Owned p k
  owner k p h g e = owner_by 2048 k p (omega arith) h g e

  -- a node that is written changes games only above its leaf
  module _ (new : List ℕ) (p : ℕ) (same : (q : ℕ) → (q ≡ p → ⊥) → packed_at new q ≡ packed_at ws q) where
    unaffected : (a b : ℕ) → (a ≡ suc p → ⊥) → (b ≡ suc p → ⊥) → cheaper new a b ≡ cheaper ws a b
    unaffected zero b h g = refl
    unaffected (suc x) zero h g = refl
    unaffected (suc x) (suc y) h g =
        ap₂ (λ (u v : Packed). cond (ltb u.cost v.cost) (suc y) (suc x))
        (same y (λ e. g (ap suc e))) (same x (λ e. h (ap suc e)))

    above_leaf : (j c : ℕ) → c / 2 ≡ j → Owned p c → OnWay ((1024 + p) / 2) j
    above_leaf j c h (t, l, (f, e)) = (f, up_half f (1024 + p) ∙ ap (λ (x : ℕ). x / 2) e ∙ h)

    pub rewritten : length new ≡ length ws → Played tree new o (OnWay ((1024 + p) / 2))
    rewritten long =
        record {
          nodes = P.nodes;
          known = λ k. let h = P.known k in record { few = h.few; room = omega (arith, h.room) };
          leaves = P.leaves;
          games = λ k h g. go k h g (ℕ_discrete (entry_at tree (2 * k)) (suc p)) (ℕ_discrete (entry_at tree (2 * k + 1)) (suc p));
        }
      where
        go : (k : ℕ) → 1 ≤ k → k < 1024 → Dec (entry_at tree (2 * k) ≡ suc p) → Dec (entry_at tree (2 * k + 1) ≡ suc p)
            → OnWay ((1024 + p) / 2) k ⊎ Game tree new k
        go k h g (yes e) r = inl (above_leaf k (2 * k) (omega arith) (owner (2 * k) p (omega arith) (omega arith) e))
        go k h g (no l) (yes e) = inl (above_leaf k (2 * k + 1) (omega arith) (owner (2 * k + 1) p (omega arith) (omega arith) e))
        go k h g (no l) (no r) = inr (game_at k h g ∙ sym (unaffected (entry_at tree (2 * k)) (entry_at tree (2 * k + 1)) l r))

-- a leaf that is set changes the game above it
module _ (tree ws : List ℕ) (o : ℕ → Bool) (p : ℕ) (P : Played tree ws o (OnWay ((1024 + p) / 2))) (placed : Placed ws p)
    (b : Bool) where
  abbrev leaf : ℕ
  leaf = cond b (suc p) 0

  abbrev new : List ℕ
  new = set tree (1024 + p) leaf

  leaf_here : entry_at new (1024 + p) ≡ leaf
  leaf_here = get_or-set_same tree (1024 + p) leaf 0 (omega (arith, P.nodes))

  leaf_else : (k : ℕ) → (k ≡ 1024 + p → ⊥) → entry_at new k ≡ entry_at tree k
  leaf_else k d = get_or-set_other tree (1024 + p) k leaf 0 d

  leaf_known : (c : Bool) → Known ws (cond c (suc p) 0)
  leaf_known true = placed
  leaf_known false = record { few = omega arith; room = omega arith }

  new_known : (k : ℕ) → Known ws (entry_at new k)
  new_known k = go (ℕ_discrete k (1024 + p))
    where
      go : Dec (k ≡ 1024 + p) → Known ws (entry_at new k)
      go (yes d) = subst (Known ws) (sym (ap (entry_at new) d ∙ leaf_here)) (leaf_known b)
      go (no d) = subst (Known ws) (sym (leaf_else k d)) (P.known k)

  new_leaves : (q : ℕ) → q < 1024 → entry_at new (1024 + q) ≡ cond (with_leaf p b o q) (suc q) 0
  new_leaves q h = go (ℕ_discrete q p)
    where
      go : Dec (q ≡ p) → entry_at new (1024 + q) ≡ cond (with_leaf p b o q) (suc q) 0
      go (yes d) =
          ap (λ (x : ℕ). entry_at new (1024 + x)) d ∙ leaf_here ∙ ap (λ (x : ℕ). cond b (suc x) 0) (sym d)
          ∙ ap (λ (t : Bool). cond (cond t b (o q)) (suc q) 0) (sym (eq-eqb q p d))
      go (no d) =
          leaf_else (1024 + q) (λ e. d (omega arith)) ∙ P.leaves q h
          ∙ ap (λ (t : Bool). cond (cond t b (o q)) (suc q) 0) (sym (ne_eqb q p d))

  new_games : (j : ℕ) → 1 ≤ j → j < 1024 → OnWay ((1024 + p) / 2) j ⊎ Game new ws j
  new_games j h g = go (P.games j h g) (ℕ_discrete (2 * j) (1024 + p)) (ℕ_discrete (2 * j + 1) (1024 + p))
    where
      go : OnWay ((1024 + p) / 2) j ⊎ Game tree ws j → Dec (2 * j ≡ 1024 + p) → Dec (2 * j + 1 ≡ 1024 + p)
          → OnWay ((1024 + p) / 2) j ⊎ Game new ws j
      go (inl w) l r = inl w
      go (inr e) (yes l) r = inl (0, omega arith)
      go (inr e) (no l) (yes r) = inl (0, omega arith)
      go (inr e) (no l) (no r) =
          inr (leaf_else j (λ z. omega arith) ∙ e ∙ ap₂ (cheaper ws) (sym (leaf_else (2 * j) l)) (sym (leaf_else (2 * j + 1) r)))

  pub leaf_set : Played new ws (with_leaf p b o) (OnWay ((1024 + p) / 2))
  leaf_set = record { nodes = length-set tree (1024 + p) leaf ∙ P.nodes; known = new_known; leaves = new_leaves; games = new_games }
