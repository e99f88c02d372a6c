-- The way from a place back to the opening node: counted, and written from its end.
use mathlib.Core.Path.{◌≡◌, refl, sym, ◌∙◌, ap, subst}
use mathlib.Core.Bool.{Bool, cond}
use mathlib.Core.List.{List, [], ◌∷◌, ◌++◌, append_assoc}
use Prim.Native.Nat.{ℕ, zero, suc, ◌+◌, ◌-◌, ◌/◌, ◌%◌, ◌≤◌, ◌<◌}
use native.Mathlib.Decide.{ℕ_discrete}
use native.Mathlib.Omega.{arith}
use lib.ListN.{length, drop, set, length-append, length-set}
use lib.Seq.{drop-set-add, drop-cons}
use borrow.Author.Tests.{eq-eqb, ne_eqb}
use Rattle.lists.specs.Lists.{singleton}
use Rattle.searching.specs.Search.{Node, node_at, plan_from, plan_to}
use Rattle.node_words.specs.Words.{packed_at, nodes_of}
use Rattle.node_words.proofs.Lists.{nodes_length, node_is}
use Rattle.origins.specs.Origins.{Inside}

plan_none : (ns : List Node) (m i : ℕ) → i ≡ 0 → plan_from ns m i ≡ []
plan_none ns zero i e = refl
plan_none ns (suc m) i e =
    ap (λ (b : Bool). cond b [] (plan_from ns m (node_at ns i).origin ++ singleton (node_at ns i).action)) (eq-eqb i 0 e)

plan_on : (ns : List Node) (m i : ℕ) → (i ≡ 0 → ⊥)
    → plan_from ns (suc m) i ≡ plan_from ns m (node_at ns i).origin ++ singleton (node_at ns i).action
plan_on ns m i d =
    ap (λ (b : Bool). cond b [] (plan_from ns m (node_at ns i).origin ++ singleton (node_at ns i).action)) (ne_eqb i 0 d)

-- a byte stored before the rest
drop_stored : (l : List ℕ) (k a : ℕ) → k < length l → drop k (set l k a) ≡ a ∷ drop (suc k) l
drop_stored l k a h =
    let e : k + 0 ≡ k = omega arith in
    ap (λ (j : ℕ). drop k (set l j a)) (sym e) ∙ drop-set-add k l 0 a ∙ ap (λ (r : List ℕ). set r 0 a) (drop-cons l k 0 h)

-- d steps back from the place stands i
pub record Counted (words : List ℕ) (n place d i : ℕ) : Type 0 where
  pub few : d ≤ n
  pub here : i < n
  pub same : d + length (plan_from (nodes_of words n) (n - d) i) ≡ length (plan_to (nodes_of words n) place)

-- the steps from step k on are written; i stands before step k
pub record Written (words : List ℕ) (n place : ℕ) (start : List ℕ) (steps : ℕ) (plan : List ℕ) (k i : ℕ) : Type 0 where
  pub few : k ≤ steps
  pub here : i < n
  pub long : length plan ≡ length start
  pub fuel : ℕ
  pub left : length (plan_from (nodes_of words n) fuel i) ≡ k
  pub same : plan_from (nodes_of words n) fuel i ++ drop k plan ≡ plan_to (nodes_of words n) place ++ drop steps start

module _ (words : List ℕ) (n place : ℕ) (inside : Inside (nodes_of words n)) where
  abbrev ns : List Node
  ns = nodes_of words n

  many : length ns ≡ n
  many = nodes_length words n

  origin_is : (i : ℕ) → i < n → (node_at ns i).origin ≡ (packed_at words i).link / 256
  origin_is i h = ap (λ (y : Node). y.origin) (node_is words n i h)

  action_is : (i : ℕ) → i < n → (node_at ns i).action ≡ (packed_at words i).link % 256
  action_is i h = ap (λ (y : Node). y.action) (node_is words n i h)

  origin_below : (i : ℕ) → i < n → (packed_at words i).link / 256 < n
  origin_below i h =
      subst (λ (j : ℕ). j < n) (origin_is i h) (subst (λ (j : ℕ). (node_at ns i).origin < j) many (inside i (omega (arith, many))))

  whole : plan_from ns n place ≡ plan_to ns place
  whole = ap (λ (m : ℕ). plan_from ns m place) (sym many)

  -- Counting

  pub counted_first : place < n → Counted words n place 0 place
  counted_first h =
      let e : n - 0 ≡ n = omega arith in
      record { few = omega arith; here = h; same = omega (arith, ap (λ (m : ℕ). length (plan_from ns m place)) e, ap length whole) }

  pub counted_on : (d i : ℕ) → Counted words n place d i → d < n → (i ≡ 0 → ⊥) → Counted words n place (d + 1) ((packed_at words i).link / 256)
  counted_on d i C l z =
      let e : n - d ≡ suc (n - (d + 1)) = omega arith in
      let m = n - (d + 1) in
      let longer : length (plan_from ns (n - d) i) ≡ length (plan_from ns m (node_at ns i).origin) + 1 =
      ap (λ (j : ℕ). length (plan_from ns j i)) e ∙ ap length (plan_on ns m i z)
      ∙ length-append (plan_from ns m (node_at ns i).origin) (singleton (node_at ns i).action) in
      let at : length (plan_from ns m (node_at ns i).origin) ≡ length (plan_from ns m ((packed_at words i).link / 256)) =
      ap (λ (j : ℕ). length (plan_from ns m j)) (origin_is i C.here) in
      record { few = omega arith; here = origin_below i C.here; same = omega (arith, C.same, longer, at) }

  pub counted_zero : (d i : ℕ) → Counted words n place d i → i ≡ 0 → d ≡ length (plan_to ns place)
  counted_zero d i C z = omega (arith, C.same, ap length (plan_none ns (n - d) i z))

  pub counted_last : (d i : ℕ) → Counted words n place d i → n ≤ d → n ≡ length (plan_to ns place)
  counted_last d i C l =
      let e : n - d ≡ 0 = omega arith in omega (arith, C.few, C.same, ap (λ (j : ℕ). length (plan_from ns j i)) e)

  -- Writing

  module _ (start : List ℕ) (steps : ℕ) (room : steps ≤ length start) where
    pub written_first : place < n → steps ≡ length (plan_to ns place) → Written words n place start steps start steps place
    written_first h e =
        record {
          few = omega arith;
          here = h;
          long = refl;
          fuel = n;
          left = ap length whole ∙ sym e;
          same = ap (λ (p : List ℕ). p ++ drop steps start) whole;
        }

    pub written_on : (plan : List ℕ) (k i : ℕ) → Written words n place start steps plan k i → 0 < k
        → (a o : ℕ) → a ≡ (packed_at words i).link % 256 → o ≡ (packed_at words i).link / 256 → Written words n place start steps (set plan (k - 1) a) (k - 1) o
    written_on plan k i W l a o acts leads = go W.fuel W.left W.same (ℕ_discrete i 0)
      where
        go : (m : ℕ) → length (plan_from ns m i) ≡ k → plan_from ns m i ++ drop k plan ≡ plan_to ns place ++ drop steps start → Dec (i ≡ 0)
            → Written words n place start steps (set plan (k - 1) a) (k - 1) o
        go zero e q z = absurd (omega arith)
        go (suc m) e q (yes z) = absurd (omega (arith, ap length (plan_none ns (suc m) i z)))
        go (suc m) e q (no z) =
            let on : plan_from ns (suc m) i ≡ plan_from ns m o ++ singleton a =
            plan_on ns m i z ∙ (λ j. plan_from ns m ((origin_is i W.here ∙ sym leads) j) ++ singleton ((action_is i W.here ∙ sym acts) j)) in
            let less : length (plan_from ns m o) ≡ k - 1 =
            omega (arith, ap length on, length-append (plan_from ns m o) (singleton a)) in
            let back : suc (k - 1) ≡ k = omega arith in
            record {
              few = omega (arith, W.few);
              here = subst (λ (j : ℕ). j < n) (sym leads) (origin_below i W.here);
              long = length-set plan (k - 1) a ∙ W.long;
              fuel = m;
              left = less;
              same =
                  ap (λ (r : List ℕ). plan_from ns m o ++ r)
                  (drop_stored plan (k - 1) a (omega (arith, W.few, W.long)) ∙ ap (λ (j : ℕ). a ∷ drop j plan) back)
                  ∙ sym (append_assoc (plan_from ns m o) (singleton a) (drop k plan))
                  ∙ ap (λ (p : List ℕ). p ++ drop k plan) (sym on) ∙ q;
            }

    pub written_last : (plan : List ℕ) (k i : ℕ) → Written words n place start steps plan k i → k < 1 → plan ≡ plan_to ns place ++ drop steps start
    written_last plan k i W l = go (plan_from ns W.fuel i) W.left W.same
      where
        go : (p : List ℕ) → length p ≡ k → p ++ drop k plan ≡ plan_to ns place ++ drop steps start → plan ≡ plan_to ns place ++ drop steps start
        go [] e q = ap (λ (j : ℕ). drop j plan) e ∙ q
        go (x ∷ xs) e q = absurd (omega arith)
