-- The list of the nodes, before and after a node is written.
use mathlib.Core.Path.{◌≡◌, refl, sym, ◌∙◌, ap, ap₂}
use mathlib.Core.List.{List, [], ◌++◌}
use Prim.Native.Nat.{ℕ, zero, suc, ◌+◌, ◌<◌}
use native.Mathlib.Nat.{not-suc-le-zero}
use native.Mathlib.Decide.{ℕ_discrete}
use native.Mathlib.Omega.{arith}
use lib.ListN.{length, set, length-set, length-append, get_or-append}
use lib.Seq.{get_or-append_seam, get_or-set_same, get_or-set_other, ext_get_or}
use Rattle.lists.specs.Lists.{singleton}
use Rattle.searching.specs.Search.{Node, no_node, node_at}
use Rattle.node_words.specs.declared.Packed.{Packed}
use Rattle.node_words.specs.Words.{packed_at, as_node, nodes_of, Written}

pub nodes_length : (ws : List ℕ) (n : ℕ) → length (nodes_of ws n) ≡ n
nodes_length ws zero = refl
nodes_length ws (suc n) =
    let e : length (nodes_of ws n ++ singleton (as_node (packed_at ws n))) ≡ length (nodes_of ws n) + 1 = length-append (nodes_of ws n) (singleton (as_node (packed_at ws n))) in
    omega (arith, nodes_length ws n)

pub node_is : (ws : List ℕ) (n i : ℕ) → i < n → node_at (nodes_of ws n) i ≡ as_node (packed_at ws i)
node_is ws zero i h = absurd (not-suc-le-zero h)
node_is ws (suc n) i h = go (ℕ_discrete i n) (node_is ws n i)
  where
    x : Node
    x = as_node (packed_at ws n)

    go : Dec (i ≡ n) → (i < n → node_at (nodes_of ws n) i ≡ as_node (packed_at ws i)) → node_at (nodes_of ws n ++ singleton x) i ≡ as_node (packed_at ws i)
    go (yes q) f =
        ap (λ (k : ℕ). node_at (nodes_of ws n ++ singleton x) k) (q ∙ sym (nodes_length ws n))
        ∙ get_or-append_seam (nodes_of ws n) x [] no_node ∙ ap (λ (k : ℕ). as_node (packed_at ws k)) (sym q)
    go (no q) f =
        let l : i < n = omega arith in
        get_or-append (nodes_of ws n) (singleton x) no_node i (omega (arith, nodes_length ws n)) ∙ f l

-- words that are the same up to n
pub nodes_same : (ws new : List ℕ) (n : ℕ) → ((q : ℕ) → q < n → packed_at new q ≡ packed_at ws q) → nodes_of new n ≡ nodes_of ws n
nodes_same ws new zero f = refl
nodes_same ws new (suc n) f =
    ap₂ (λ (ns : List Node) (x : Packed). ns ++ singleton (as_node x)) (nodes_same ws new n (λ q h. f q (omega arith))) (f n (omega arith))

-- a node more
pub nodes_added : (ws new : List ℕ) (n : ℕ) (x : Packed) → Written ws new n x → nodes_of new (suc n) ≡ nodes_of ws n ++ singleton (as_node x)
nodes_added ws new n x W =
    ap₂ (λ (ns : List Node) (y : Packed). ns ++ singleton (as_node y)) (nodes_same ws new n (λ q h. W.others q (λ e. omega arith))) W.here

-- another node at a place
pub nodes_set : (ws new : List ℕ) (n p : ℕ) (x : Packed) → p < n → Written ws new p x → nodes_of new n ≡ set (nodes_of ws n) p (as_node x)
nodes_set ws new n p x h W =
    ext_get_or no_node (nodes_of new n) (set (nodes_of ws n) p (as_node x))
    (nodes_length new n ∙ sym (length-set (nodes_of ws n) p (as_node x) ∙ nodes_length ws n)) (λ i l. go i (omega (arith, nodes_length new n)) (ℕ_discrete i p))
  where
    go : (i : ℕ) → i < n → Dec (i ≡ p) → node_at (nodes_of new n) i ≡ node_at (set (nodes_of ws n) p (as_node x)) i
    go i l (yes q) =
        node_is new n i l ∙ ap (λ (k : ℕ). as_node (packed_at new k)) q ∙ ap as_node W.here
        ∙ sym (ap (λ (k : ℕ). node_at (set (nodes_of ws n) p (as_node x)) k) q ∙ get_or-set_same (nodes_of ws n) p (as_node x) no_node (omega (arith, nodes_length ws n)))
    go i l (no q) =
        node_is new n i l ∙ ap as_node (W.others i q)
        ∙ sym (get_or-set_other (nodes_of ws n) p i (as_node x) no_node q ∙ node_is ws n i l)
