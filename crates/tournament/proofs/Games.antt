-- Games that are played again, from a node up to the root.
use mathlib.Core.Path.{◌≡◌, refl, sym, ◌∙◌, ap, ap₂, subst}
use mathlib.Core.Logic.{◌⊎◌, inl, inr}
use mathlib.Core.Bool.{Bool, true, false, cond}
use mathlib.Core.List.{List}
use Prim.Native.Nat.{ℕ, zero, suc, ◌+◌, ◌*◌, ◌/◌, ◌≤◌, ◌<◌}
use native.Mathlib.Decide.{ℕ_discrete}
use native.Mathlib.Omega.{arith}
use lib.Dec.{ltb}
use lib.ListN.{length, set, length-set}
use lib.Seq.{get_or-set_same, get_or-set_other}
use Rattle.tournament.specs.Tournament.{cost_at, cheaper, entry_at, Game, up, OnWay, Nowhere, Known, Played}

-- the cheaper entry is one of the two
pub cheaper_one : (ws : List ℕ) (a b : ℕ) → (cheaper ws a b ≡ a) ⊎ (cheaper ws a b ≡ b)
cheaper_one ws zero b = inr refl
cheaper_one ws (suc p) zero = inl refl
cheaper_one ws (suc p) (suc q) = go (ltb (cost_at ws q) (cost_at ws p))
  where
    go : (t : Bool) → (cond t (suc q) (suc p) ≡ suc p) ⊎ (cond t (suc q) (suc p) ≡ suc q)
    go true = inr refl
    go false = inl refl

pub cheaper_known : (ws : List ℕ) (a b : ℕ) → Known ws a → Known ws b → Known ws (cheaper ws a b)
cheaper_known ws a b h g = go (cheaper_one ws a b)
  where
    go : (cheaper ws a b ≡ a) ⊎ (cheaper ws a b ≡ b) → Known ws (cheaper ws a b)
    go (inl e) = subst (Known ws) (sym e) h
    go (inr e) = subst (Known ws) (sym e) g

pub up_half : (f k : ℕ) → up f (k / 2) ≡ up f k / 2
up_half zero k = refl
up_half (suc f) k = up_half f (k / 2)

up_none : (f : ℕ) → up f 0 ≡ 0
up_none zero = refl
up_none (suc f) = up_none f

-- above the root is no node
pub all_played : (tree ws : List ℕ) (o : ℕ → Bool) → Played tree ws o (OnWay 0) → Played tree ws o Nowhere
all_played tree ws o P =
    record { nodes = P.nodes; known = P.known; leaves = P.leaves; games = λ k h g. go k h (P.games k h g) }
  where
    go : (k : ℕ) → 1 ≤ k → OnWay 0 k ⊎ Game tree ws k → Nowhere k ⊎ Game tree ws k
    go k h (inl (f, e)) = absurd (omega (arith, up_none f))
    go k h (inr g) = inr g

-- one game is played again
module _ (tree ws : List ℕ) (o : ℕ → Bool) (i : ℕ) (P : Played tree ws o (OnWay i)) (low : 1 ≤ i) (high : i < 1024) where
  abbrev won : ℕ
  won = cheaper ws (entry_at tree (2 * i)) (entry_at tree (2 * i + 1))

  abbrev new : List ℕ
  new = set tree i won

  new_here : entry_at new i ≡ won
  new_here = get_or-set_same tree i won 0 (omega (arith, P.nodes))

  new_else : (k : ℕ) → (k ≡ i → ⊥) → entry_at new k ≡ entry_at tree k
  new_else k d = get_or-set_other tree i k won 0 d

  -- a game that i is not in
  still : (j : ℕ) → (j ≡ i → ⊥) → (2 * j ≡ i → ⊥) → (2 * j + 1 ≡ i → ⊥) → Game tree ws j → Game new ws j
  still j d l r g =
      new_else j d ∙ g ∙ ap₂ (cheaper ws) (sym (new_else (2 * j) l)) (sym (new_else (2 * j + 1) r))

  new_games : (j : ℕ) → 1 ≤ j → j < 1024 → OnWay (i / 2) j ⊎ Game new ws j
  new_games j h g = go (ℕ_discrete j i) (P.games j h g) (ℕ_discrete (2 * j) i) (ℕ_discrete (2 * j + 1) i)
    where
      above : (f : ℕ) → (j ≡ i → ⊥) → up f i ≡ j → OnWay (i / 2) j
      above zero d e = absurd (d (sym e))
      above (suc f) d e = (f, e)

      go : Dec (j ≡ i) → OnWay i j ⊎ Game tree ws j → Dec (2 * j ≡ i) → Dec (2 * j + 1 ≡ i) → OnWay (i / 2) j ⊎ Game new ws j
      go (yes d) p l r =
          inr (subst (Game new ws) (sym d)
          (new_here ∙ ap₂ (cheaper ws) (sym (new_else (2 * i) (λ e. omega arith))) (sym (new_else (2 * i + 1) (λ e. omega arith)))))
      go (no d) (inl (f, e)) l r = inl (above f d e)
      go (no d) (inr p) (yes l) r = inl (0, omega arith)
      go (no d) (inr p) (no l) (yes r) = inl (0, omega arith)
      go (no d) (inr p) (no l) (no r) = inr (still j d l r p)

  new_known : (k : ℕ) → Known ws (entry_at new k)
  new_known k = go (ℕ_discrete k i)
    where
      go : Dec (k ≡ i) → Known ws (entry_at new k)
      go (yes d) =
          subst (Known ws) (sym (ap (entry_at new) d ∙ new_here))
          (cheaper_known ws (entry_at tree (2 * i)) (entry_at tree (2 * i + 1)) (P.known (2 * i)) (P.known (2 * i + 1)))
      go (no d) = subst (Known ws) (sym (new_else k d)) (P.known k)

  pub replayed : Played new ws o (OnWay (i / 2))
  replayed =
      record {
        nodes = length-set tree i won ∙ P.nodes;
        known = new_known;
        leaves = λ p h. new_else (1024 + p) (λ e. omega arith) ∙ P.leaves p h;
        games = new_games;
      }

-- the games from node k on were played up to node i
pub record Replaying (tree ws : List ℕ) (k : ℕ) (now : List ℕ) (i : ℕ) : Type 0 where
  pub below : i < 1024
  pub long : length now ≡ length tree
  pub some : (o : ℕ → Bool) × Played now ws o (OnWay i)
  pub keeps : (o : ℕ → Bool) → Played tree ws o (OnWay k) → Played now ws o (OnWay i)

pub replaying_on : (tree ws : List ℕ) (k : ℕ) (now : List ℕ) (i : ℕ) → Replaying tree ws k now i → 1 ≤ i
    → Replaying tree ws k (set now i (cheaper ws (entry_at now (2 * i)) (entry_at now (2 * i + 1)))) (i / 2)
replaying_on tree ws k now i R h =
    record {
      below = omega (arith, R.below);
      long = length-set now i (cheaper ws (entry_at now (2 * i)) (entry_at now (2 * i + 1))) ∙ R.long;
      some = (R.some.0, replayed now ws R.some.0 i R.some.1 h R.below);
      keeps = λ o P. replayed now ws o i (R.keeps o P) h R.below;
    }

pub replaying_ends : (tree ws : List ℕ) (k : ℕ) (now : List ℕ) (i : ℕ) → Replaying tree ws k now i → i < 1
    → (o : ℕ → Bool) → Played tree ws o (OnWay k) → Played now ws o Nowhere
replaying_ends tree ws k now i R h o P =
    let z : i ≡ 0 = omega arith in
    all_played now ws o (subst (λ (j : ℕ). Played now ws o (OnWay j)) z (R.keeps o P))

-- What the code tests

pub no_second : (ws : List ℕ) (a b : ℕ) → b ≡ 0 → a ≡ cheaper ws a b
no_second ws zero b e = sym e
no_second ws (suc p) b e = subst (λ (x : ℕ). suc p ≡ cheaper ws (suc p) x) (sym e) refl

pub no_first : (ws : List ℕ) (a b : ℕ) → a ≡ 0 → b ≡ cheaper ws a b
no_first ws a b e = subst (λ (x : ℕ). b ≡ cheaper ws x b) (sym e) refl

pub by_cost : (ws : List ℕ) (a b p q : ℕ) → a ≡ suc p → b ≡ suc q → cond (ltb (cost_at ws q) (cost_at ws p)) b a ≡ cheaper ws a b
by_cost ws a b p q h g =
    (λ i. cond (ltb (cost_at ws q) (cost_at ws p)) (g i) (h i)) ∙ ap₂ (cheaper ws) (sym h) (sym g)
