-- What becomes of the list when a node is met.
use mathlib.Core.Path.{◌≡◌, refl, ap}
use mathlib.Core.Bool.{Bool, true, false, cond}
use mathlib.Core.List.{List, [], ◌∷◌, ◌++◌}
use Prim.Native.Nat.{ℕ, zero, suc, ◌<◌, ◌≤◌}
use native.Mathlib.Nat.{not-suc-le-zero, le_of_suc-le-suc}
use native.Mathlib.Omega.{arith}
use lib.Dec.{ltb}
use lib.ListN.{length, set}
use borrow.Author.Tests.{ltb-true, ltb-false}
use Rattle.lists.specs.Lists.{singleton}
use Rattle.searching.specs.Search.{Node, node_at, same, lowered, meet}
use Rattle.searching.specs.States.{Below}
use Rattle.searching.proofs.States.{same_equal, differ}

-- x leaves all as it was, or replaces the entry of its state, or is added
pub data Met (ns : List Node) (x : Node) (new : List Node) : Type 0 where
  left : (j : ℕ) → j < length ns → (node_at ns j).state ≡ x.state → (node_at ns j).cost ≤ x.cost → new ≡ ns → Met ns x new
  replaced : (j : ℕ) → j < length ns → (node_at ns j).state ≡ x.state → x.cost < (node_at ns j).cost → new ≡ set ns j x
      → Met ns x new
  added : ((j : ℕ) → j < length ns → (node_at ns j).state ≡ x.state → ⊥) → new ≡ ns ++ singleton x → Met ns x new

-- one node more in front, of another state
further : (n : Node) (ns : List Node) (x : Node) (new : List Node) → (n.state ≡ x.state → ⊥) → Met ns x new → Met (n ∷ ns) x (n ∷ new)
further n ns x new d (left j h s c e) = left (suc j) (omega arith) s c (ap (λ (l : List Node). n ∷ l) e)
further n ns x new d (replaced j h s c e) = replaced (suc j) (omega arith) s c (ap (λ (l : List Node). n ∷ l) e)
further n ns x new d (added f e) = added other (ap (λ (l : List Node). n ∷ l) e)
  where
    other : (j : ℕ) → j < length (n ∷ ns) → (node_at (n ∷ ns) j).state ≡ x.state → ⊥
    other zero h s = d s
    other (suc j) h s = f j (le_of_suc-le-suc h) s

at_entry : (n : Node) (ns : List Node) (x : Node) → n.state ≡ x.state → Met (n ∷ ns) x (lowered n x ∷ ns)
at_entry n ns x s = go (ltb x.cost n.cost) refl
  where
    go : (b : Bool) → ltb x.cost n.cost ≡ b
        → Met (n ∷ ns) x (cond b (record { state = n.state; cost = x.cost; origin = x.origin; action = x.action }) n ∷ ns)
    go true e =
        replaced 0 (omega arith) s (ltb-true x.cost n.cost e)
        (λ i. record { state = s i; cost = x.cost; origin = x.origin; action = x.action } ∷ ns)
    go false e = left 0 (omega arith) s (ltb-false x.cost n.cost e) refl

-- every node of the list and x hold no fact from F on
pub met : (F : ℕ) (ns : List Node) (x : Node) → ((j : ℕ) → j < length ns → Below F (node_at ns j).state) → Below F x.state
    → Met ns x (meet F ns x)
met F [] x b c = added (λ j h s. not-suc-le-zero h) refl
met F (n ∷ ns) x b c = go (same F n.state x.state) refl (met F ns x (λ j h. b (suc j) (omega arith)) c)
  where
    go : (d : Bool) → same F n.state x.state ≡ d → Met ns x (meet F ns x)
        → Met (n ∷ ns) x (cond d (lowered n x ∷ ns) (n ∷ meet F ns x))
    go true e m = at_entry n ns x (same_equal F n.state x.state (b 0 (omega arith)) c e)
    go false e m = further n ns x (meet F ns x) (differ F n.state x.state e) m
