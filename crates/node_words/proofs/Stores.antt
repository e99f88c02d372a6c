-- Four stores write a node.
use mathlib.Core.Path.{◌≡◌, ◌∙◌}
use mathlib.Core.List.{List}
use Prim.Native.Nat.{ℕ, ◌+◌, ◌*◌, ◌≤◌}
use native.Mathlib.Omega.{arith}
use lib.ListN.{length, get_or, set, length-set}
use lib.Seq.{get_or-set_same, get_or-set_other}
use Rattle.node_words.specs.declared.Packed.{Packed}
use Rattle.node_words.specs.Words.{packed_at, Written}

module _ (ws : List ℕ) (p : ℕ) (x : Packed) (h : 4 * p + 4 ≤ length ws) where
  abbrev w1 : List ℕ
  w1 = set ws (4 * p) x.low

  abbrev w2 : List ℕ
  w2 = set w1 (4 * p + 1) x.high

  abbrev w3 : List ℕ
  w3 = set w2 (4 * p + 2) x.cost

  abbrev w4 : List ℕ
  w4 = set w3 (4 * p + 3) x.link

  l1 : length w1 ≡ length ws
  l1 = length-set ws (4 * p) x.low

  l2 : length w2 ≡ length ws
  l2 = length-set w1 (4 * p + 1) x.high ∙ l1

  l3 : length w3 ≡ length ws
  l3 = length-set w2 (4 * p + 2) x.cost ∙ l2

  l4 : length w4 ≡ length ws
  l4 = length-set w3 (4 * p + 3) x.link ∙ l3

  low_is : get_or w4 (4 * p) 0 ≡ x.low
  low_is =
      get_or-set_other w3 (4 * p + 3) (4 * p) x.link 0 (λ e. omega arith)
      ∙ get_or-set_other w2 (4 * p + 2) (4 * p) x.cost 0 (λ e. omega arith)
      ∙ get_or-set_other w1 (4 * p + 1) (4 * p) x.high 0 (λ e. omega arith)
      ∙ get_or-set_same ws (4 * p) x.low 0 (omega arith)

  high_is : get_or w4 (4 * p + 1) 0 ≡ x.high
  high_is =
      get_or-set_other w3 (4 * p + 3) (4 * p + 1) x.link 0 (λ e. omega arith)
      ∙ get_or-set_other w2 (4 * p + 2) (4 * p + 1) x.cost 0 (λ e. omega arith)
      ∙ get_or-set_same w1 (4 * p + 1) x.high 0 (omega (arith, l1))

  cost_is : get_or w4 (4 * p + 2) 0 ≡ x.cost
  cost_is =
      get_or-set_other w3 (4 * p + 3) (4 * p + 2) x.link 0 (λ e. omega arith)
      ∙ get_or-set_same w2 (4 * p + 2) x.cost 0 (omega (arith, l2))

  link_is : get_or w4 (4 * p + 3) 0 ≡ x.link
  link_is = get_or-set_same w3 (4 * p + 3) x.link 0 (omega (arith, l3))

  -- a word of another node
  else_is : (i : ℕ) → (i ≡ 4 * p → ⊥) → (i ≡ 4 * p + 1 → ⊥) → (i ≡ 4 * p + 2 → ⊥) → (i ≡ 4 * p + 3 → ⊥) → get_or w4 i 0 ≡ get_or ws i 0
  else_is i a b c d =
      get_or-set_other w3 (4 * p + 3) i x.link 0 d
      ∙ get_or-set_other w2 (4 * p + 2) i x.cost 0 c
      ∙ get_or-set_other w1 (4 * p + 1) i x.high 0 b
      ∙ get_or-set_other ws (4 * p) i x.low 0 a

  pub stored : Written ws w4 p x
  unfolding packed_at
  stored =
      record {
        long = l4;
        here = λ i. record { low = low_is i; high = high_is i; cost = cost_is i; link = link_is i };
        others = λ q d i. record {
          low = else_is (4 * q) (λ e. d (omega arith)) (λ e. omega arith) (λ e. omega arith) (λ e. omega arith) i;
          high = else_is (4 * q + 1) (λ e. omega arith) (λ e. d (omega arith)) (λ e. omega arith) (λ e. omega arith) i;
          cost = else_is (4 * q + 2) (λ e. omega arith) (λ e. omega arith) (λ e. d (omega arith)) (λ e. omega arith) i;
          link = else_is (4 * q + 3) (λ e. omega arith) (λ e. omega arith) (λ e. omega arith) (λ e. d (omega arith)) i;
        };
      }
