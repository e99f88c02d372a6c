-- Where a node that is met goes, by the entry of its state.
use mathlib.Core.Path.{◌≡◌, refl, ap}
use mathlib.Core.Bool.{true, false}
use mathlib.Core.List.{List, [], ◌∷◌, ◌++◌}
use Prim.Native.Nat.{ℕ, zero, suc, ◌<◌}
use native.Mathlib.Nat.{not-suc-le-zero, le_of_suc-le-suc}
use native.Mathlib.Omega.{arith}
use lib.ListN.{length, set}
use Rattle.lists.specs.Lists.{singleton}
use Rattle.searching.specs.Search.{Node, node_at, same, lowered, meet}

module _ (F : ℕ) (x : Node) where
  pub meet_here : (ns : List Node) (p : ℕ) → p < length ns → same F (node_at ns p).state x.state ≡ true
      → ((j : ℕ) → j < p → same F (node_at ns j).state x.state ≡ false) → meet F ns x ≡ set ns p (lowered (node_at ns p) x)
  meet_here [] p h e f = absurd (not-suc-le-zero h)
  meet_here (n ∷ ns) zero h e f = rw e refl
  meet_here (n ∷ ns) (suc p) h e f =
      let first : same F n.state x.state ≡ false = f 0 (omega arith) in
      rw first (ap (λ (l : List Node). n ∷ l) (meet_here ns p (le_of_suc-le-suc h) e (λ j l. f (suc j) (omega arith))))

  pub meet-none : (ns : List Node) → ((j : ℕ) → j < length ns → same F (node_at ns j).state x.state ≡ false) → meet F ns x ≡ ns ++ singleton x
  meet-none [] f = refl
  meet-none (n ∷ ns) f =
      let first : same F n.state x.state ≡ false = f 0 (omega arith) in
      rw first (ap (λ (l : List Node). n ∷ l) (meet-none ns (λ j l. f (suc j) (omega arith))))
