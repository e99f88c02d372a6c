-- A node that is met: its state has an entry, it is a new one, or it has no room.
use mathlib.Core.Path.{◌≡◌, refl, sym, ◌∙◌, ap, ap₂, subst, fun_ext}
use mathlib.Core.Logic.{inl, inr}
use mathlib.Core.Bool.{Bool, true, false, not, cond, ◌&&◌}
use mathlib.Core.List.{List, ◌++◌}
use Prim.Native.Nat.{ℕ, suc, ◌^◌, ◌<◌, ◌≤◌}
use native.Mathlib.Decide.{ℕ_discrete}
use native.Mathlib.Omega.{arith}
use lib.Dec.{leb, ltb}
use lib.ListN.{length, set, length-append}
use lib.Seq.{set-get_or}
use borrow.Author.Tests.{le-leb, lt-leb, lt-ltb, le-ltb, eq-eqb, ne_eqb, ltb-true, ltb-false}
use Rattle.lists.specs.Lists.{singleton}
use Rattle.state.specs.Member.{member}
use Rattle.state.specs.declared.State.{State}
use Rattle.searching.specs.Search.{Node, no_node, node_at, same, lowered, meet}
use Rattle.searching.specs.States.{Below}
use Rattle.searching.proofs.States.{same_equal, equal_same}
use Rattle.node_words.specs.Words.{packed_at, state_of, as_node, nodes_of, Written}
use Rattle.node_words.specs.declared.Packed.{Packed}
use Rattle.node_words.proofs.Lists.{nodes_length, node_is, nodes_added, nodes_set}
use Rattle.state_table.specs.Table.{state_at, SLOTS, entry_at, Way, Finds}
use Rattle.state_table.proofs.Putting.{same_tabled, put_tabled}
use Rattle.tournament.specs.Tournament.{cost_at, Nowhere, Played, with_leaf}
use Rattle.meeting.specs.Meeting.{Nodes, nodes_in, list_of, Lowered, open_below, Narrow, Held, roomed, AllBelow, MetAs}
use Rattle.meeting.proofs.WordsEqual.{words_equal}
use Rattle.meeting.proofs.Entry.{meet_here, meet-none}

-- all have room
pub roomed_is : (limit : ℕ) (s : Nodes) → s.count ≤ limit → roomed limit s ≡ s
roomed_is limit s h = λ i. nodes_in s.words s.table s.tree (cond (le-leb s.count limit h i) s.count limit) s.taken

module _ {s : Nodes} (limit : ℕ) (H : Held s) (most : s.count ≤ limit) (x : Packed) (narrow : Narrow x) where
  abbrev words : List ℕ
  words = s.words

  abbrev n : ℕ
  n = s.count

  abbrev ns : List Node
  ns = list_of s

  -- the nodes after it, where all have room
  with_room : (m : Nodes) → m.count ≤ limit → Held m → m.taken ≡ s.taken → n ≤ m.count
      → ((F : ℕ) → AllBelow F s → Below F (member (state_of x)) → AllBelow F m × (list_of m ≡ meet F ns (as_node x))) → MetAs s m limit x
  with_room m room held taken more is =
      let same : roomed limit m ≡ m = roomed_is limit m room in
      record {
        holds = subst Held (sym same) held;
        same_taken = taken;
        more = omega (arith, ap (λ (k : Nodes). k.count) same);
        below = λ F B b. subst (AllBelow F) (sym same) (is F B b).0;
        keeps = λ F B b.
            let e : list_of m ≡ meet F ns (as_node x) = (is F B b).1 in
            let l : length (meet F ns (as_node x)) ≤ limit = omega (arith, ap length e, nodes_length m.words m.count) in
            rw (le-leb m.count limit room, le-leb (length (meet F ns (as_node x))) limit l) (λ i. record { nodes = e i; full = false });
      }

  -- a node of another state is told apart
  module _ (F : ℕ) (B : AllBelow F s) (b : Below F (member (state_of x))) where
    apart : (j : ℕ) → j < n → (state_at words j ≡ state_of x → ⊥) → same F (node_at ns j).state (member (state_of x)) ≡ false
    apart j h d = go (same F (node_at ns j).state (member (state_of x))) refl
      where
        state_is : (node_at ns j).state ≡ member (state_at words j)
        state_is = ap (λ (y : Node). y.state) (node_is words n j h)

        go : (t : Bool) → same F (node_at ns j).state (member (state_of x)) ≡ t → t ≡ false
        go false e = refl
        go true e =
            let equal : member (state_at words j) ≡ member (state_of x) =
            same_equal F (member (state_at words j)) (member (state_of x)) (B j h) b (ap (λ (s : ℕ → Bool). same F s (member (state_of x))) (sym state_is) ∙ e) in
            let w = H.narrow j h in
            absurd (d (words_equal (state_at words j) (state_of x) w.0 w.1 narrow.0 narrow.1 equal))

    together : (j : ℕ) → j < n → state_at words j ≡ state_of x → same F (node_at ns j).state (member (state_of x)) ≡ true
    together j h e = equal_same F (node_at ns j).state (member (state_of x)) (ap (λ (y : Node). y.state) (node_is words n j h) ∙ ap member e)

  -- Its state has an entry

  module _ (later after : List ℕ) (p : ℕ) (h : p < n) (has : state_at words p ≡ state_of x) (L : Lowered words later p x)
      (games : Played after later (open_below n s.taken) Nowhere) where
    later_long : Lowered words later p x → length later ≡ length words
    later_long (inl (c, W)) = W.long
    later_long (inr (c, e)) = ap length e

    later_states : Lowered words later p x → (q : ℕ) → state_at later q ≡ state_at words q
    later_states (inl (c, W)) q = go (ℕ_discrete q p)
      where
        go : Dec (q ≡ p) → state_at later q ≡ state_at words q
        go (yes e) = ap (state_at later) e ∙ ap state_of W.here ∙ sym has ∙ ap (state_at words) (sym e)
        go (no d) = ap state_of (W.others q d)
    later_states (inr (c, e)) q = ap (λ (w : List ℕ). state_at w q) e

    later_narrow : (q : ℕ) → q < n → Narrow (packed_at later q)
    later_narrow q l =
        let s = later_states L q in
        let w = H.narrow q l in
        (subst (λ (y : State). y.low < 2 ^ 64) (sym s) w.0, subst (λ (y : State). y.high < 2 ^ 64) (sym s) w.1)

    at : node_at ns p ≡ as_node (packed_at words p)
    at = node_is words n p h

    abbrev by_x : State → Node
    by_x y = record { state = member y; cost = x.cost; origin = (as_node x).origin; action = (as_node x).action }

    by_cost : (t : Bool) → ltb x.cost (cost_at words p) ≡ t
        → lowered (node_at ns p) (as_node x) ≡ cond t (by_x (state_at words p)) (as_node (packed_at words p))
    by_cost t e =
        ap (λ (y : Node). lowered y (as_node x)) at ∙ ap (λ (b : Bool). cond b (by_x (state_at words p)) (as_node (packed_at words p))) e

    lowered_is : Lowered words later p x → nodes_of later n ≡ set ns p (lowered (node_at ns p) (as_node x))
    lowered_is (inl (c, W)) =
        nodes_set words later n p x h W ∙ ap (set ns p) (sym (by_cost true (lt-ltb x.cost (cost_at words p) c) ∙ ap by_x has))
    lowered_is (inr (c, e)) =
        ap (λ (w : List ℕ). nodes_of w n) e
        ∙ sym (ap (set ns p) (by_cost false (le-ltb x.cost (cost_at words p) c) ∙ sym at) ∙ set-get_or ns p no_node)

    pub met_known : MetAs s (nodes_in later s.table after n s.taken) limit x
    met_known = with_room (nodes_in later s.table after n s.taken) most held refl (omega arith) (λ F B b. (below F B, lowered_is L ∙ sym (met F B b)))
      where
        held : Held (nodes_in later s.table after n s.taken)
        held =
            record {
              long = later_long L ∙ H.long;
              tabled = same_tabled s.table words later n H.tabled (later_long L) (λ q l. later_states L q);
              played = games;
              narrow = later_narrow;
            }

        below : (F : ℕ) → AllBelow F s → (q : ℕ) → q < n → Below F (member (state_at later q))
        below F B q l = subst (λ (y : State). Below F (member y)) (sym (later_states L q)) (B q l)

        earlier : (j : ℕ) → j < p → state_at words j ≡ state_of x → ⊥
        earlier j l e = let q : j ≡ p = H.tabled.distinct j p (omega arith) h (e ∙ sym has) in omega arith

        met : (F : ℕ) → AllBelow F s → Below F (member (state_of x)) → meet F ns (as_node x) ≡ set ns p (lowered (node_at ns p) (as_node x))
        met F B b =
            meet_here F (as_node x) ns p (omega (arith, nodes_length words n)) (together F B b p h has) (λ j l. apart F B b j (omega arith) (earlier j l))

  -- It is a new one

  module _ (alone : (p : ℕ) → p < n → state_at words p ≡ state_of x → ⊥) where
    added : (F : ℕ) → AllBelow F s → Below F (member (state_of x)) → meet F ns (as_node x) ≡ ns ++ singleton (as_node x)
    added F B b =
        meet-none F (as_node x) ns
        (λ j l. apart F B b j (omega (arith, nodes_length words n)) (alone j (omega (arith, nodes_length words n))))

    -- without room
    pub met_full : (r : ℕ) → n ≡ limit → r ≡ suc n → MetAs s (nodes_in words s.table s.tree r s.taken) limit x
    met_full r e q =
        record {
          holds = subst Held (sym still) H;
          same_taken = refl;
          more = omega (arith, count);
          below = λ F B b. subst (AllBelow F) (sym still) B;
          keeps = λ F B b.
              let l : limit < length (meet F ns (as_node x)) =
              omega (arith, ap length (added F B b), length-append ns (singleton (as_node x)), nodes_length words n) in
              rw (lt-leb r limit (omega arith), lt-leb (length (meet F ns (as_node x))) limit l) (λ i. record { nodes = nodes_of words (sym e i); full = true });
        }
      where
        count : cond (leb r limit) r limit ≡ n
        count = ap (λ (b : Bool). cond b r limit) (lt-leb r limit (omega arith)) ∙ sym e

        still : roomed limit (nodes_in words s.table s.tree r s.taken) ≡ s
        still = λ i. nodes_in words s.table s.tree (count i) s.taken

    -- with room
    module _ (r slot : ℕ) (later entries after : List ℕ) (more : r ≡ suc n) (room : n < limit) (few : limit ≤ 1024) (within : slot < SLOTS)
        (free : entry_at s.table slot ≡ 0) (way : Way s.table (state_of x) slot) (W : Written words later n x) (put : entries ≡ set s.table slot (suc n))
        (games : Played after later (with_leaf n true (open_below n s.taken)) Nowhere) (fresh : s.taken n ≡ false) where
      abbrev with_it : Nodes
      with_it = nodes_in later (set s.table slot (suc n)) after (suc n) s.taken

      now_open : with_leaf n true (open_below n s.taken) ≡ open_below (suc n) s.taken
      now_open = fun_ext (λ q. go q (ℕ_discrete q n))
        where
          below : (q : ℕ) → (q ≡ n → ⊥) → ltb q n ≡ ltb q (suc n)
          below q d = by (ltb q n) refl
            where
              by : (t : Bool) → ltb q n ≡ t → t ≡ ltb q (suc n)
              by true e = sym (lt-ltb q (suc n) (omega (arith, ltb-true q n e)))
              by false e = let l : n ≤ q = ltb-false q n e in sym (le-ltb q (suc n) (omega arith))

          go : (q : ℕ) → Dec (q ≡ n) → with_leaf n true (open_below n s.taken) q ≡ open_below (suc n) s.taken q
          go q (yes e) =
              ap (λ (t : Bool). cond t true (open_below n s.taken q)) (eq-eqb q n e)
              ∙ sym (ap₂ (λ (a b : Bool). a && not b) (lt-ltb q (suc n) (omega arith)) (ap s.taken e ∙ fresh))
          go q (no d) =
              ap (λ (t : Bool). cond t true (open_below n s.taken q)) (ne_eqb q n d)
              ∙ ap (λ (a : Bool). a && not (s.taken q)) (below q d)

      new_narrow : (q : ℕ) → q < suc n → Narrow (packed_at later q)
      new_narrow q l = go (ℕ_discrete q n)
        where
          go : Dec (q ≡ n) → Narrow (packed_at later q)
          go (yes e) = subst Narrow (sym (ap (packed_at later) e ∙ W.here)) narrow
          go (no d) = subst Narrow (sym (W.others q d)) (H.narrow q (omega arith))

      new_held : Held with_it
      new_held =
          record {
            long = W.long ∙ H.long;
            tabled = put_tabled s.table words n slot H.tabled within free later (omega arith) (omega (arith, W.long, H.long))
                (λ p l. ap state_of (W.others p (λ e. omega arith))) (subst (λ (y : State). Way s.table y slot) (sym (ap state_of W.here)) way)
                (λ p l e. alone p l (e ∙ ap state_of W.here));
            played = subst (λ (o : ℕ → Bool). Played after later o Nowhere) now_open games;
            narrow = new_narrow;
          }

      new_below : (F : ℕ) → AllBelow F s → Below F (member (state_of x)) → (q : ℕ) → q < suc n → Dec (q ≡ n)
          → Below F (member (state_of (packed_at later q)))
      new_below F B b q l (yes e) = subst (λ (y : Packed). Below F (member (state_of y))) (sym (ap (packed_at later) e ∙ W.here)) b
      new_below F B b q l (no d) = subst (λ (y : Packed). Below F (member (state_of y))) (sym (W.others q d)) (B q (omega arith))

      pub met_new : MetAs s (nodes_in later entries after r s.taken) limit x
      met_new =
          subst (λ (m : Nodes). MetAs s m limit x) (λ i. nodes_in later (sym put i) after (sym more i) s.taken)
          (with_room with_it room new_held refl (omega arith)
          (λ F B b. (λ q l. new_below F B b q l (ℕ_discrete q n), nodes_added words later n x W ∙ sym (added F B b))))

-- What the entry says

pub found_none : (ws : List ℕ) (n : ℕ) (s : State) (e : ℕ) → e ≡ 0 → Finds ws n s e → (p : ℕ) → p < n → state_at ws p ≡ s → ⊥
found_none ws n s e z f = subst (Finds ws n s) z f
