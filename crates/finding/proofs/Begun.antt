-- The opening node, met by a table and a tree that hold none, opens the search.
use mathlib.Core.Path.{◌≡◌, refl, sym, ◌∙◌, ap, subst}
use mathlib.Core.Logic.{inr}
use mathlib.Core.Bool.{Bool, true, false, not, cond, ◌&&◌}
use mathlib.Core.List.{List, []}
use Prim.Native.Nat.{ℕ, zero, suc, ◌+◌, ◌*◌, ◌≤◌}
use native.Mathlib.Nat.{not-suc-le-zero}
use native.Mathlib.Omega.{arith}
use lib.Dec.{T}
use lib.ListN.{length, get_or, replicate, length-replicate}
use borrow.Author.Tests.{le-leb, le-ltb}
use Rattle.lists.specs.Lists.{singleton}
use Rattle.meaning.specs.Task.{Task, well_formed}
use Rattle.meaning.specs.Meaning.{opening}
use Rattle.state.specs.Member.{member}
use Rattle.state.specs.declared.State.{State}
use Rattle.searching.specs.Search.{Kept, opening_node}
use Rattle.searching.specs.States.{Below}
use Rattle.searching.proofs.States.{opening_below}
use Rattle.node_words.specs.Words.{as_node, nodes_of}
use Rattle.node_words.specs.declared.Packed.{Packed}
use Rattle.node_words.proofs.Lists.{nodes_length}
use Rattle.state_table.specs.Table.{taken}
use Rattle.tournament.specs.Tournament.{cheaper}
use Rattle.meeting.specs.Meeting.{Nodes, nodes_in, list_of, Held, roomed, kept_as, MetAs}
use Rattle.exploring.specs.Exploring.{Opened}

-- Nothing is held

abbrev zeros : ℕ → List ℕ
zeros n = replicate n 0

none_at : (n r : ℕ) → get_or (zeros n) r 0 ≡ 0
none_at zero r = refl
none_at (suc n) zero = refl
none_at (suc n) (suc r) = none_at n r

none-taken : (n : ℕ) → taken (zeros n) ≡ 0
none-taken zero = refl
none-taken (suc n) = none-taken n

pub held_none : (words table tree : List ℕ) (f : ℕ → Bool) → length words ≡ 4096 → table ≡ zeros 2048 → tree ≡ zeros 2048
    → Held (nodes_in words table tree 0 f)
held_none words table tree f long t0 r0 =
    record {
      long = long;
      tabled =
          record {
            few = omega arith;
            room = omega arith;
            slots = ap length t0 ∙ length-replicate {A = ℕ} 2048 0;
            known = λ r. omega (arith, ap (λ (l : List ℕ). get_or l r 0) t0, none_at 2048 r);
            entered = λ p h. absurd (not-suc-le-zero h);
            distinct = λ p q h g e. absurd (not-suc-le-zero h);
            sparse = omega (arith, ap taken t0, none-taken 2048);
          };
      played =
          record {
            nodes = ap length r0 ∙ length-replicate {A = ℕ} 2048 0;
            known = λ k. let e = empty k in record { few = omega (arith, e); room = omega (arith, e) };
            leaves = λ p h. empty (1024 + p) ∙ ap (λ (b : Bool). cond (b && not (f p)) (suc p) 0) (sym (le-ltb p 0 (omega arith)));
            games = λ k h g. inr (empty k ∙ sym (empty (2 * k + 1)) ∙ ap (λ (a : ℕ). cheaper words a (get_or tree (2 * k + 1) 0)) (sym (empty (2 * k))));
          };
      narrow = λ p h. absurd (not-suc-le-zero h);
    }
  where
    empty : (k : ℕ) → get_or tree k 0 ≡ 0
    empty k = ap (λ (l : List ℕ). get_or l k 0) r0 ∙ none_at 2048 k

-- The opening node is met

-- the words of the node, by its state
abbrev first_of : State → Packed
first_of s = record { low = s.low; high = s.high; cost = 0; link = 0 }

module _ (t : Task) (formed : T (well_formed t)) {goal : ℕ} (at : goal ≡ length t.start + 1) (s : State) (opens : member s ≡ opening t)
    {words table0 tree0 later table tree : List ℕ} {r limit : ℕ} (some : 1 ≤ limit)
    (M : MetAs (nodes_in words table0 tree0 0 (λ i. false)) (nodes_in later table tree r (λ i. false)) limit (first_of s)) where
  abbrev new : Nodes
  new = nodes_in later table tree r (λ i. false)

  first_node : as_node (first_of s) ≡ opening_node t
  first_node i = record { state = opens i; cost = 0; origin = 0; action = 0 }

  below : Below t.facts (member s)
  below = subst (Below t.facts) (sym opens) (opening_below t formed)

  kept : ◌≡◌ {A = Kept} (kept_as limit new) (record { nodes = singleton (as_node (first_of s)); full = false })
  kept =
      M.keeps t.facts (λ p h. absurd (not-suc-le-zero h)) below
      ∙ ap (λ (b : Bool). cond b (record { nodes = singleton (as_node (first_of s)); full = false }) (record { nodes = []; full = true })) (le-leb 1 limit some)

  nodes : list_of (roomed limit new) ≡ singleton (as_node (first_of s))
  nodes = ap (λ (K : Kept). K.nodes) kept

  one : (roomed limit new).count ≡ 1
  one = sym (nodes_length later (roomed limit new).count) ∙ ap length nodes

  pub opened : Opened goal later table tree t
  opened =
      record {
        goal_at = at;
        held = subst (λ (n : ℕ). Held (nodes_in later table tree n (λ i. false))) one M.holds;
        first = ap (nodes_of later) (sym one) ∙ nodes ∙ ap singleton first_node;
      }
