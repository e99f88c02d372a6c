-- Nodes handed over to a lent list.
use mathlib.Core.Path.{◌≡◌, refl, sym, ◌∙◌, ap, subst}
use mathlib.Core.List.{List, [], ◌∷◌, ◌++◌, map, map-append}
use Prim.Native.Nat.{ℕ, zero, suc, ◌/◌, ◌%◌, ◌<◌, ◌≤◌}
use native.Mathlib.Nat.{mod-eq_of_lt}
use native.Mathlib.Omega.{arith}
use lib.ListN.{length, take, drop, replicate}
use lib.Seq.{take_at, drop_at}
use Rattle.std.specs.Prelude.{Result, Ok, Err}
use Rattle.task.specs.declared.Refusal.{Refusal}
use Rattle.lists.specs.Lists.{singleton}
use Rattle.searching.specs.Search
use Rattle.searching.specs.Search.{node_at}
use Rattle.node_words.specs.Words.{packed_at, nodes_of}
use Rattle.node_words.specs.Words
use Rattle.node_words.proofs.Lists.{nodes_length, node_is}
use Rattle.searched.specs.Searched.{Searched, search_file, Lent}
use Rattle.searched.specs.Claim.{Claim}
use Rattle.searched.proofs.Claimed.{search_claim}
use Rattle.searched.proofs.Small.{Small, kept_small}
use Rattle.finding.specs.Finding.{as_searched, as_sought, plan_after}
use Rattle.finding.specs.declared.Sought.{Sought}
use Rattle.finding.specs.declared.Sought.TheVariants.{Found, NoPlan, Full}
use Rattle.nodes.specs.declared.Node.{Node}
use Rattle.nodes.specs.Nodes.{as_node, node_read, up_to}
use Rattle.nodes.proofs.Filling.{filled, length-up_to}
use Rattle.cheapest.specs.LentWords.{nodes_in}
use Rattle.cheapest.specs.declared.Kept.{Kept}
use Rattle.cheapest.specs.Kept.{answer, by_value, KeptAs}

-- What stands in words is what is kept

pub kept_is : (plan words : List ℕ) (s : Result Sought Refusal) → nodes_of words (nodes_in s) ≡ (as_searched plan words s).kept
kept_is plan words (Ok (Found r n)) = refl
kept_is plan words (Ok (NoPlan n)) = refl
kept_is plan words (Ok (Full n)) = refl
kept_is plan words (Err r) = refl

-- The answer is the same over any words

any_words : (plan words ws : List ℕ) (s : Result Sought Refusal) → (as_searched plan ws s).answer ≡ (as_searched plan words s).answer
any_words plan words ws (Ok (Found r n)) = refl
any_words plan words ws (Ok (NoPlan n)) = refl
any_words plan words ws (Ok (Full n)) = refl
any_words plan words ws (Err r) = refl

module _ (b : List ℕ) (limit room : ℕ) (words : List ℕ) (n : ℕ) (e : nodes_of words n ≡ (search_file b limit room).kept) where
  abbrev kept : List Search.Node
  kept = (search_file b limit room).kept

  small : Small room kept
  small = kept_small b limit room

  pub many : length kept ≡ n
  many = sym (ap length e) ∙ nodes_length words n

  pub fits : n ≤ room
  fits = omega (arith, many, small.roomy)

  pub few : n ≤ 1024
  few = omega (arith, many, small.few)

  -- an origin is a place, so that 16 bits hold it
  origin_small : (i : ℕ) → i < n → (packed_at words i).link / 256 < 65536
  origin_small i h =
      let at : node_at kept i ≡ Words.as_node (packed_at words i) = sym (ap (λ (l : List Search.Node). node_at l i) e) ∙ node_is words n i h in
      omega (arith, small.inside i (omega (arith, many)), ap (λ (y : Search.Node). y.origin) at, small.few)

  unpacked_is : (m : ℕ) → m ≤ n → map as_node (up_to (node_read words) m) ≡ nodes_of words m
  unpacked_is zero h = refl
  unpacked_is (suc m) h =
      let q : (packed_at words m).link / 256 % 65536 ≡ (packed_at words m).link / 256 = mod-eq_of_lt (origin_small m (omega arith)) in
      map-append as_node (up_to (node_read words) m) (node_read words m ∷ [])
      ∙ (λ i. unpacked_is m (omega arith) i ++ singleton (record {
        state = (Words.as_node (packed_at words m)).state;
        cost = (packed_at words m).cost;
        origin = q i;
        action = (packed_at words m).link % 256;
      }))

  pub lent : (ys zs : List Node) → zs ≡ filled (node_read words) ys n → Lent as_node kept ys zs
  lent ys zs z =
      record {
        begins =
            ap (λ (k : ℕ). map as_node (take k zs)) many ∙ ap (λ (l : List Node). map as_node (take n l)) z
            ∙ ap (map as_node) (take_at (up_to (node_read words) n) (drop n ys) n (length-up_to (node_read words) n)) ∙ unpacked_is n (omega arith) ∙ e;
        rest =
            ap (λ (k : ℕ). drop k zs) many ∙ ap (drop n) z ∙ drop_at (up_to (node_read words) n) (drop n ys) n (length-up_to (node_read words) n)
            ∙ ap (λ (k : ℕ). drop k ys) (sym many);
      }

pub handed : (b : List ℕ) (limit : ℕ) (ys zs : List Node) (k : Kept) → KeptAs b limit (length ys) k → zs ≡ filled (node_read k.words) ys k.nodes
    → (k.searched ≡ by_value (search_file b limit (length ys))) × (answer k.searched ≡ (search_file b limit (length ys)).answer)
    × Lent as_node (search_file b limit (length ys)).kept ys zs × Claim b limit (answer k.searched)
handed b limit ys zs k K z =
    let S = search_file b limit (length ys) in (
      K.answers,
      K.says,
      lent b limit (length ys) k.words k.nodes K.holds ys zs z,
      subst (Claim b limit) (sym K.says) (search_claim b limit (length ys)),
    )

-- what `find` has left in words of its own
pub kept_words : (b : List ℕ) (limit room : ℕ) (words plan : List ℕ) (s : Result Sought Refusal) (n : ℕ) → length words ≡ 4096 → n ≡ nodes_in s
    → as_searched plan words s ≡ search_file b limit room → s ≡ as_sought (search_file b limit room)
    → plan ≡ plan_after (search_file b limit room).answer (replicate 1023 0)
    → KeptAs b limit room (record { searched = record { sought = s; steps = plan }; nodes = n; words = words })
kept_words b limit room words plan s n long number e sought steps =
    record {
      long = long;
      fits = fits b limit room words n holds;
      few = few b limit room words n holds;
      says = any_words plan words [] s ∙ ap (λ (x : Searched). x.answer) e;
      answers = λ z. record { sought = sought z; steps = steps z };
      holds = holds;
    }
  where
    holds : nodes_of words n ≡ (search_file b limit room).kept
    holds = ap (nodes_of words) number ∙ kept_is plan words s ∙ ap (λ (x : Searched). x.kept) e
