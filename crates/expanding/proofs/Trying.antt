-- Action by action.
use mathlib.Core.Path.{◌≡◌, refl, sym, ◌∙◌, ap, subst}
use mathlib.Core.Logic.{inl, inr}
use mathlib.Core.Bool.{Bool, true, false, not, cond, ◌&&◌}
use mathlib.Core.List.{List}
use Prim.Native.Nat.{ℕ, zero, suc, ◌+◌, ◌-◌, ◌*◌, ◌/◌, ◌%◌, ◌<◌, ◌≤◌}
use native.Mathlib.Omega.{arith}
use lib.Dec.{ltb, ltb→lt}
use lib.ListN.{length, get_or}
use borrow.Author.Tests.{le-leb, lt-leb}
use Rattle.meaning.specs.Task.{Task}
use Rattle.meaning.specs.Meaning.{applies}
use Rattle.state.specs.Member.{member}
use Rattle.searching.specs.Search.{Node, Kept, meet, fit, stepped, try_action, tried}
use Rattle.searching.specs.States.{Below}
use Rattle.searching.proofs.States.{after_below}
use Rattle.node_words.specs.Words.{packed_at, state_of, as_node}
use Rattle.node_words.specs.declared.Packed.{Packed}
use Rattle.meeting.specs.Meeting.{Nodes, list_of, Held, roomed, kept_as, AllBelow, MetAs}
use Rattle.meeting.proofs.Meeting.{roomed_is}
use Rattle.leading.specs.Leading.{LedTo}
use Rattle.lists.proofs.Tests.{all_at}
use Rattle.layout.specs.Counting.{AMPLE}
use Rattle.layout.specs.Actions.{ActionAt}
use Rattle.expanding.specs.declared.Trial.{Trial}
use Rattle.expanding.specs.declared.Turn.{Turn}
use Rattle.expanding.specs.Expanding.{Listed, Trying, Tried, Expanding, node_read, Expanded}

-- the actions below k have been tried, and all had room
pub record TriedTo (start : Nodes) (u : Turn) (k : ℕ) (s : Nodes) (t : Task) : Type 0 where
  pub done : k ≤ length t.actions
  pub room : s.count ≤ u.limit
  pub grown : start.count ≤ s.count
  pub same_taken : s.taken ≡ start.taken
  pub held : Held s
  pub below : AllBelow t.facts s
  pub kept : ◌≡◌ {A = Kept} (record { nodes = list_of s; full = false }) (tried t u.limit u.place (node_read u start) (list_of start) k)

-- where a node had no room, the rest is not tried
tried_rest : (t : Task) (limit i : ℕ) (x : Node) (ns : List Node) (k d : ℕ) → (tried t limit i x ns k).full ≡ true
    → tried t limit i x ns (k + d) ≡ tried t limit i x ns k
tried_rest t limit i x ns k zero h = let e : k + 0 ≡ k = omega arith in ap (tried t limit i x ns) e
tried_rest t limit i x ns k (suc d) h =
    let e : k + suc d ≡ suc (k + d) = omega arith in
    ap (tried t limit i x ns) e
    ∙ ap (try_action t limit i x (k + d)) (tried_rest t limit i x ns k d h)
    ∙ ap (λ (b : Bool). cond (not b && applies t x.state (k + d))
    (fit limit (tried t limit i x ns k).nodes (meet t.facts (tried t limit i x ns k).nodes (stepped t i x (k + d)))) (tried t limit i x ns k)) h

-- the row of action k
module _ {ms vs starts : List ℕ} {t : Task} (L : Listed ms vs starts t) (k : ℕ) (h : k < length starts) where
  pub row_inside : get_or starts k 0 < length ms
  row_inside = ltb→lt (get_or starts k 0) (length ms) (all_at (λ (j : ℕ). ltb j (length ms)) starts k 0 L.inside h)

  pub row_opens : ActionAt ms vs (get_or starts k 0) t k
  row_opens =
      let known : k < length t.actions = omega (arith, L.all_actions) in
      record { spells = L.spells; known = known; begins = L.noted k known }

module _ {ms vs starts : List ℕ} {u : Turn} {start : Nodes} {t : Task} (L : Listed ms vs starts t) (E : Expanding u start t) where
  pub tried_first : TriedTo start u 0 start t
  tried_first =
      record { done = omega arith; room = E.room; grown = omega arith; same_taken = refl; held = E.held; below = E.below; kept = refl }

  fresh_place : (n : ℕ) → start.count ≤ n → start.taken n ≡ false
  fresh_place n h = go (start.taken n) refl
    where
      go : (b : Bool) → start.taken n ≡ b → b ≡ false
      go true e = absurd (omega (arith, E.within n e))
      go false e = refl

  module _ {k : ℕ} {s : Nodes} (R : TriedTo start u k s t) where
    abbrev x : Packed
    x = packed_at start.words u.place

    abbrev so_far : ℕ → Kept
    so_far j = tried t u.limit u.place (node_read u start) (list_of start) j

    one_more : k + 1 ≡ suc k
    one_more = omega arith

    -- what trying action k comes to
    trying : (b : Bool) → applies t (member (state_of x)) k ≡ b
        → so_far (suc k)
        ≡ cond b (fit u.limit (list_of s) (meet t.facts (list_of s) (stepped t u.place (node_read u start) k)))
        (record { nodes = list_of s; full = false })
    trying b e =
        ap (try_action t u.limit u.place (node_read u start) k) (sym R.kept)
        ∙ ap (λ (c : Bool). cond c (fit u.limit (list_of s) (meet t.facts (list_of s) (stepped t u.place (node_read u start) k)))
        (record { nodes = list_of s; full = false })) e

    -- it does not apply
    tried_none : k < length t.actions → applies t (member (state_of x)) k ≡ false → TriedTo start u (k + 1) s t
    tried_none h e =
        record {
          done = omega arith;
          room = R.room;
          grown = R.grown;
          same_taken = R.same_taken;
          held = R.held;
          below = R.below;
          kept = sym (ap so_far one_more ∙ trying false e);
        }

    -- all have been tried
    pub tried_all : length t.actions ≤ k → Expanded u start s t
    tried_all h =
        let last : k ≡ length t.actions = omega (arith, R.done) in
        record {
          keeps = rw (le-leb s.count u.limit R.room) (R.kept ∙ ap so_far last);
          holds = subst Held (sym (roomed_is u.limit s R.room)) R.held;
        }

    -- it leads to y
    module _ (h : k < length t.actions) (few : k < 256) (link : ℕ) (linked : link ≡ u.place * 256 + k) (y : Packed) (Y : LedTo t k x link y) where
      y_is : as_node y ≡ stepped t u.place (node_read u start) k
      y_is =
          let o : y.link / 256 ≡ u.place = omega (arith, Y.linked) in
          let a : y.link % 256 ≡ k = omega (arith, Y.linked) in
          λ i. record { state = Y.state i; cost = Y.cost i; origin = o i; action = a i }

      y_below : Below t.facts (member (state_of y))
      y_below =
          subst (Below t.facts) (sym Y.state)
          (after_below t L.spells.formed (member (state_of x)) k h (E.below u.place E.placed))

      module _ (new : Nodes) (M : MetAs s new u.limit y) where
        met_is : kept_as u.limit new ≡ so_far (suc k)
        met_is =
            M.keeps t.facts R.below y_below
            ∙ ap (λ (z : Node). fit u.limit (list_of s) (meet t.facts (list_of s) z)) y_is
            ∙ sym (trying true Y.applying)

        tried_to : new.count ≤ u.limit → TriedTo start u (k + 1) new t
        tried_to l =
            let same : roomed u.limit new ≡ new = roomed_is u.limit new l in
            record {
              done = omega arith;
              room = l;
              grown = omega (arith, R.grown, M.more, ap (λ (m : Nodes). m.count) same);
              same_taken = M.same_taken ∙ R.same_taken;
              held = subst Held same M.holds;
              below = subst (AllBelow t.facts) same (M.below t.facts R.below y_below);
              kept =
                  (λ i. record { nodes = list_of (sym same i); full = not (sym (le-leb new.count u.limit l) i) })
                  ∙ met_is ∙ ap so_far (sym one_more);
            }

        tried_stop : u.limit < new.count → Expanded u start new t
        tried_stop l =
            let full : (so_far (suc k)).full ≡ true = ap (λ (K : Kept). K.full) (sym met_is) ∙ ap not (lt-leb new.count u.limit l) in
            let rest : suc k + (length t.actions - suc k) ≡ length t.actions = omega arith in
            record {
              keeps =
                  met_is
                  ∙ sym (ap so_far (sym rest)
                  ∙ tried_rest t u.limit u.place (node_read u start) (list_of start) (suc k) (length t.actions - suc k) full);
              holds = M.holds;
            }

    -- what trying action k asks
    pub trial : (y : Packed) → y ≡ x → Trying u.limit y s
    trial y same =
        record {
          ample = subst (λ (p : Packed). p.cost < AMPLE) (sym same) E.ample;
          room = R.room;
          limited = E.limited;
          held = R.held;
          fresh = ap (λ (f : ℕ → Bool). f s.count) R.same_taken ∙ fresh_place s.count R.grown;
        }

    -- one action more, by what trying it gave
    module _ (h : k < length starts) (z : Trial) (linked : z.link ≡ u.place * 256 + k) (same_limit : z.limit ≡ u.limit) (new : Nodes) (T : Tried z x s new t k) where
      known : k < length t.actions
      known = omega (arith, L.all_actions)

      few : k < 256
      few = omega (arith, L.few_actions)

      met : {y : Packed} → MetAs s new z.limit y → MetAs s new u.limit y
      met {y} M = subst (λ (l : ℕ). MetAs s new l y) same_limit M

      pub tried_on : new.count ≤ u.limit → TriedTo start u (k + 1) new t
      tried_on l = go T
        where
          go : Tried z x s new t k → TriedTo start u (k + 1) new t
          go (inl (not_applying, e)) = subst (λ (m : Nodes). TriedTo start u (k + 1) m t) (sym e) (tried_none known not_applying)
          go (inr (y, Y, M)) = tried_to known few z.link linked y Y new (met M) l

      pub tried_out : u.limit < new.count → Expanded u start new t
      tried_out l = go T
        where
          go : Tried z x s new t k → Expanded u start new t
          go (inl (not_applying, e)) = absurd (omega (arith, ap (λ (m : Nodes). m.count) e, R.room))
          go (inr (y, Y, M)) = tried_stop known few z.link linked y Y new (met M) l
