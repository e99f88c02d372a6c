-- The place that is chosen.
use mathlib.Core.Path.{◌≡◌, refl, ◌∙◌, ap}
use mathlib.Core.Bool.{Bool, true, false, cond}
use mathlib.Core.List.{List}
use mathlib.Core.Option.{Option, none, some}
use Prim.Native.Nat.{ℕ, zero, suc, ◌<◌, ◌≤◌}
use native.Mathlib.Nat.{not-suc-le-zero}
use native.Mathlib.Decide.{ℕ_discrete}
use native.Mathlib.Omega.{arith}
use lib.Dec.{ltb}
use borrow.Author.Tests.{ltb-true, ltb-false}
use Rattle.lists.proofs.Tests.{not_both}
use Rattle.searching.specs.Search.{Node, node_at, better, cheapest}

-- i is the first of the open places below n that cost least
pub record Cheapest (ns : List Node) (taken : ℕ → Bool) (n i : ℕ) : Type 0 where
  pub within : i < n
  pub is_open : taken i ≡ false
  pub least : (j : ℕ) → j < n → taken j ≡ false → (node_at ns i).cost ≤ (node_at ns j).cost
  pub earliest : (j : ℕ) → j < i → taken j ≡ false → (node_at ns i).cost < (node_at ns j).cost

abbrev NoneOpen : (ℕ → Bool) → ℕ → Type 0
NoneOpen taken n = (j : ℕ) → j < n → taken j ≡ false → ⊥

-- what a choice among the places below n says
abbrev pub Chosen : List Node → (ℕ → Bool) → ℕ → Option ℕ → Type 0
Chosen ns taken n none = NoneOpen taken n
Chosen ns taken n (some i) = Cheapest ns taken n i

module _ (ns : List Node) (taken : ℕ → Bool) where
  -- one more place
  by_taken : (n : ℕ) (c : Option ℕ) → taken n ≡ true → Chosen ns taken n c → Chosen ns taken (suc n) c
  by_taken n none e h = λ j b o. go j b o (ℕ_discrete j n)
    where
      go : (j : ℕ) → j < suc n → taken j ≡ false → Dec (j ≡ n) → ⊥
      go j b o (yes q) = not_both (ap taken q ∙ e) o
      go j b o (no q) = h j (omega arith) o
  by_taken n (some i) e h = record {
    within = omega (arith, h.within);
    is_open = h.is_open;
    least = λ j b o. go j b o (ℕ_discrete j n);
    earliest = h.earliest;
  }
    where
      go : (j : ℕ) → j < suc n → taken j ≡ false → Dec (j ≡ n) → (node_at ns i).cost ≤ (node_at ns j).cost
      go j b o (yes q) = absurd (not_both (ap taken q ∙ e) o)
      go j b o (no q) = h.least j (omega arith) o

  by_open : (n : ℕ) (c : Option ℕ) → taken n ≡ false → Chosen ns taken n c → Chosen ns taken (suc n) (better ns n c)
  by_open n none e h = record {
    within = omega arith;
    is_open = e;
    least = λ j b o. go j b o (ℕ_discrete j n);
    earliest = λ j b o. absurd (h j b o);
  }
    where
      go : (j : ℕ) → j < suc n → taken j ≡ false → Dec (j ≡ n) → (node_at ns n).cost ≤ (node_at ns j).cost
      go j b o (yes q) = rw q (omega arith)
      go j b o (no q) = absurd (h j (omega arith) o)
  by_open n (some i) e h = by_cost (ltb (node_at ns n).cost (node_at ns i).cost) refl
    where
      lower : (node_at ns n).cost < (node_at ns i).cost → (j : ℕ) → j < n → taken j ≡ false → (node_at ns n).cost < (node_at ns j).cost
      lower l j b o = let m : (node_at ns i).cost ≤ (node_at ns j).cost = h.least j b o in omega arith

      by_cost : (b : Bool) → ltb (node_at ns n).cost (node_at ns i).cost ≡ b → Chosen ns taken (suc n) (cond b (some n) (some i))
      by_cost true l = record {
        within = omega arith;
        is_open = e;
        least = λ j b o. go j b o (ℕ_discrete j n);
        earliest = lower (ltb-true (node_at ns n).cost (node_at ns i).cost l);
      }
        where
          go : (j : ℕ) → j < suc n → taken j ≡ false → Dec (j ≡ n) → (node_at ns n).cost ≤ (node_at ns j).cost
          go j b o (yes q) = rw q (omega arith)
          go j b o (no q) =
              let m : (node_at ns n).cost < (node_at ns j).cost = lower (ltb-true (node_at ns n).cost (node_at ns i).cost l) j (omega arith) o in
              omega arith
      by_cost false l = record {
        within = omega (arith, h.within);
        is_open = h.is_open;
        least = λ j b o. go j b o (ℕ_discrete j n);
        earliest = h.earliest;
      }
        where
          go : (j : ℕ) → j < suc n → taken j ≡ false → Dec (j ≡ n) → (node_at ns i).cost ≤ (node_at ns j).cost
          go j b o (yes q) = rw q (ltb-false (node_at ns n).cost (node_at ns i).cost l)
          go j b o (no q) = h.least j (omega arith) o

  pub chosen : (n : ℕ) → Chosen ns taken n (cheapest ns taken n)
  chosen zero = λ j b o. not-suc-le-zero b
  chosen (suc n) = go (taken n) refl (chosen n)
    where
      go : (b : Bool) → taken n ≡ b → Chosen ns taken n (cheapest ns taken n)
          → Chosen ns taken (suc n) (cond b (cheapest ns taken n) (better ns n (cheapest ns taken n)))
      go true e h = by_taken n (cheapest ns taken n) e h
      go false e h = by_open n (cheapest ns taken n) e h
