-- Turn by turn, what the code holds is what the search has left to do.
use mathlib.Core.Path.{◌≡◌, refl, sym, ◌∙◌, ap, subst, fun_ext}
use mathlib.Core.Bool.{Bool, true, false, not, cond, ◌&&◌, ◌||◌, and-false}
use mathlib.Core.List.{List, [], ◌∷◌}
use mathlib.Core.Option.{some}
use Prim.Native.Nat.{ℕ, suc, ◌+◌, ◌-◌, ◌<◌, ◌≤◌}
use native.Mathlib.Omega.{arith}
use lib.Dec.{T, eqb, ltb}
use lib.ListN.{length}
use borrow.Author.Tests.{le-leb, lt-leb}
use Rattle.lists.proofs.Tests.{not_both}
use Rattle.meaning.specs.Task.{Task}
use Rattle.meaning.specs.Meaning.{is_true, action_at}
use Rattle.task.specs.Limits.{MAX_AMOUNT}
use Rattle.task.specs.Spelling.{spellable}
use Rattle.reading.specs.Conditions.{begin, evaluate_at}
use Rattle.reading.specs.declared.conditions.Evaluated.{Evaluated}
use Rattle.monitors.proofs.TaskRead.{goal_read}
use Rattle.task.proofs.Amounts.{cost_bound}
use Rattle.state.specs.Member.{member}
use Rattle.searching.specs.Search.{Node, node_at, cheapest, tried, Kept, found, no_plan, full, Answer, answer, with_place, go_on, turn, turns, explore}
use Rattle.searching.specs.States.{Below}
use Rattle.searching.proofs.Choice.{Cheapest, Chosen, chosen}
use Rattle.searching.proofs.Invariant.{Every, Ready}
use Rattle.searching.proofs.Taking.{taken_each, taken_now}
use Rattle.searching.proofs.Trying.{Progress, going, stuck, progress, all_tried}
use Rattle.searching.proofs.Turns.{taken_midway}
use Rattle.searching.proofs.Explored.{first_ready}
use Rattle.searching.proofs.Plans.{cost_most}
use Rattle.node_words.specs.Words.{packed_at, state_of, as_node, nodes_of}
use Rattle.node_words.proofs.Lists.{nodes_length, node_is}
use Rattle.tournament.specs.Tournament.{entry_at, Nowhere, Played, with_leaf, as_choice}
use Rattle.tournament.proofs.Root.{root_cheapest}
use Rattle.meeting.specs.Meeting.{Nodes, nodes_in, list_of, open_below, Held, roomed, kept_as}
use Rattle.meeting.proofs.Meeting.{roomed_is}
use Rattle.expanding.specs.Expanding.{Listed, Expanding, Expanded}
use Rattle.expanding.specs.declared.Turn.{Turn}
use Rattle.exploring.specs.Exploring.{Opened}

-- m places have been taken
pub record Turning (t : Task) (limit m : ℕ) (s : Nodes) : Type 0 where
  pub turned : m ≤ limit
  pub held : Held s
  pub ready : Ready t limit (list_of s) s.taken Every m
  pub same : turns t limit (limit - m) (list_of s) s.taken ≡ explore t limit

-- no action costs more than a row can say
costs_most : (t : Task) → T (spellable t) → (k : ℕ) → (action_at t k).cost ≤ MAX_AMOUNT
costs_most t s k = omega (arith, cost_bound t s (k ∷ []))

-- before the first turn
module _ {ms vs starts : List ℕ} {t : Task} (L : Listed ms vs starts t) {goal : ℕ} {words table tree : List ℕ} (O : Opened goal words table tree t) where
  begins : (limit : ℕ) → turns t limit (limit - 0) (nodes_of words 1) (λ i. false) ≡ explore t limit
  unfolding explore
  begins limit = let e : limit - 0 ≡ limit = omega arith in λ z. turns t limit (e z) (O.first z) (λ i. false)

  pub turning_first : (limit : ℕ) → 1 ≤ limit → Turning t limit 0 (nodes_in words table tree 1 (λ i. false))
  turning_first limit has_room =
      record {
        turned = omega arith;
        held = O.held;
        ready = subst (λ (l : List Node). Ready t limit l (λ i. false) Every 0) (sym O.first) (first_ready t L.spells.formed limit has_room);
        same = begins limit;
      }

  -- the goal's condition, read in the state of a node
  pub goal_is : (ws : List ℕ) (p : ℕ)
      → (evaluate_at (member (state_of (packed_at ws p))) begin ms vs goal).holds ≡ is_true (member (state_of (packed_at ws p))) t.goal
  goal_is ws p =
      let σ = member (state_of (packed_at ws p)) in
      ap (λ (e : Evaluated). e.holds) (ap (evaluate_at σ begin ms vs) O.goal_at ∙ goal_read t ms vs L.spells σ)

module _ {t : Task} {limit m : ℕ} {s : Nodes} (few : limit ≤ 1024) (R : Turning t limit m s) where
  abbrev words : List ℕ
  words = s.words

  abbrev n : ℕ
  n = s.count

  abbrev taken : ℕ → Bool
  taken = s.taken

  abbrev ns : List Node
  ns = list_of s

  abbrev A : ℕ
  A = length t.actions

  many : length ns ≡ n
  many = nodes_length words n

  pub room : n ≤ limit
  room = omega (arith, R.ready.room, many)

  -- no turn is left
  pub ended_last : limit ≤ m → answer no_plan ns ≡ explore t limit
  ended_last h = let e : limit - m ≡ 0 = omega arith in sym (ap (λ (j : ℕ). turns t limit j ns taken) e) ∙ R.same

  module _ (left : m < limit) where
    abbrev next : List Node → (ℕ → Bool) → Answer
    next = turns t limit (limit - (m + 1))

    root : as_choice (entry_at s.tree 1) ≡ cheapest ns taken (length ns)
    root =
        root_cheapest s.tree words ns taken n (omega (arith, room, few)) R.held.played (λ q h. ap (λ (y : Node). y.cost) (node_is words n q h))
        ∙ ap (cheapest ns taken) (sym many)

    turn_is : turn t limit next ns taken (as_choice (entry_at s.tree 1)) ≡ explore t limit
    turn_is =
        let e : limit - m ≡ suc (limit - (m + 1)) = omega arith in
        ap (turn t limit next ns taken) root ∙ sym (ap (λ (j : ℕ). turns t limit j ns taken) e) ∙ R.same

    -- no place is open
    pub ended_none : entry_at s.tree 1 ≡ 0 → answer no_plan ns ≡ explore t limit
    ended_none z = ap (λ (e : ℕ). turn t limit next ns taken (as_choice e)) (sym z) ∙ turn_is

    -- place i is taken
    module _ (i : ℕ) (at : entry_at s.tree 1 ≡ suc i) where
      taken_is : turn t limit next ns taken (some i) ≡ explore t limit
      taken_is = ap (λ (e : ℕ). turn t limit next ns taken (as_choice e)) (sym at) ∙ turn_is

      chosen_i : Cheapest ns taken (length ns) i
      chosen_i = subst (Chosen ns taken (length ns)) (sym root ∙ ap as_choice at) (chosen ns taken (length ns))

      pub here : i < n
      here = omega (arith, chosen_i.within, many)

      node : node_at ns i ≡ as_node (packed_at words i)
      node = node_is words n i here

      abbrev ends : Bool → Answer
      ends b = cond b (answer (found i) ns) (go_on next i taken (tried t limit i (node_at ns i) ns A))

      met : (b : Bool) → is_true (member (state_of (packed_at words i))) t.goal ≡ b → is_true (node_at ns i).state t.goal ≡ b
      met b e = ap (λ (y : Node). is_true y.state t.goal) node ∙ e

      pub ended_found : is_true (member (state_of (packed_at words i))) t.goal ≡ true → answer (found i) ns ≡ explore t limit
      ended_found e = sym (ap ends (met true e)) ∙ taken_is

      -- its leaf is closed
      module _ {ms vs starts : List ℕ} (L : Listed ms vs starts t) (after : List ℕ)
          (games : Played after words (with_leaf i false (open_below n taken)) Nowhere) where
        abbrev u : Turn
        u = record { place = i; nodes = n; limit = limit }

        abbrev closed : Nodes
        closed = nodes_in words s.table after n (with_place i taken)

        now_taken : with_leaf i false (open_below n taken) ≡ open_below n (with_place i taken)
        now_taken = fun_ext (λ q. go (eqb q i) (ltb q n) (taken q))
          where
            go : (b c d : Bool) → cond b false (c && not d) ≡ (c && not (b || d))
            go true c d = sym (and-false c)
            go false c d = refl

        pub expanding : Expanding u closed t
        expanding =
            record {
              room = room;
              limited = few;
              placed = here;
              held =
                  record {
                    long = R.held.long;
                    tabled = R.held.tabled;
                    played = subst (λ (o : ℕ → Bool). Played after words o Nowhere) now_taken games;
                    narrow = R.held.narrow;
                  };
              below = λ p h. subst (λ (y : Node). Below t.facts y.state) (node_is words n p h) (R.ready.below p (omega (arith, many)));
              within = taken_each i taken (λ (j : ℕ). j < n) here (λ j e. omega (arith, R.ready.within j e, many));
              ample =
                  omega (
                    arith,
                    cost_most t MAX_AMOUNT (costs_most t L.spells.spelling) limit ns taken Every m R.ready i chosen_i.within,
                    ap (λ (y : Node). y.cost) node,
                    R.turned,
                    few,
                  );
            }

        -- its actions have been tried
        module _ (no : is_true (member (state_of (packed_at words i))) t.goal ≡ false) {later table tree : List ℕ} {r : ℕ}
            (X : Expanded u closed (nodes_in later table tree r (with_place i taken)) t) where
          abbrev new : Nodes
          new = nodes_in later table tree r (with_place i taken)

          abbrev K : Kept
          K = tried t limit i (node_at ns i) ns A

          kept_is : go_on next i taken K ≡ explore t limit
          kept_is = sym (ap ends (met false no)) ∙ taken_is

          kept_same : kept_as limit new ≡ K
          kept_same = X.keeps ∙ ap (λ (y : Node). tried t limit i y ns A) (sym node)

          by_progress : (J : Kept) → Progress t limit (with_place i taken) (suc m) i (node_at ns i) A J → J.full ≡ false
              → Ready t limit J.nodes (with_place i taken) Every (suc m)
          by_progress J (going e M) z = all_tried t limit (with_place i taken) (suc m) i J.nodes M.ready
          by_progress J (stuck e k M l c) z = absurd (not_both e z)

          ready_after : K.full ≡ false → Ready t limit K.nodes (with_place i taken) Every (suc m)
          ready_after =
              by_progress K
              (progress t L.spells.formed limit (with_place i taken) (suc m) i (node_at ns i) (taken_now i taken) ns
              (taken_midway t limit ns taken m i R.ready chosen_i (met false no)) A)

          abbrev goes : Bool → Answer
          goes b = cond b (answer full K.nodes) (next K.nodes (with_place i taken))

          pub ended_full : limit < r → answer full (nodes_of later limit) ≡ explore t limit
          ended_full l =
              let f : K.full ≡ true = sym (ap (λ (J : Kept). J.full) kept_same) ∙ ap not (lt-leb r limit l) in
              let count : (roomed limit new).count ≡ limit = ap (λ (b : Bool). cond b r limit) (lt-leb r limit l) in
              let nodes : nodes_of later limit ≡ K.nodes = ap (nodes_of later) (sym count) ∙ ap (λ (J : Kept). J.nodes) kept_same in
              ap (answer full) nodes ∙ sym (ap goes f) ∙ kept_is

          pub turning_on : r ≤ limit → Turning t limit (m + 1) new
          turning_on l =
              let f : K.full ≡ false = sym (ap (λ (J : Kept). J.full) kept_same) ∙ ap not (le-leb r limit l) in
              let same : roomed limit new ≡ new = roomed_is limit new l in
              let nodes : list_of new ≡ K.nodes = ap list_of (sym same) ∙ ap (λ (J : Kept). J.nodes) kept_same in
              let more : suc m ≡ m + 1 = omega arith in
              record {
                turned = omega arith;
                held = subst Held same X.holds;
                ready =
                    subst (λ (j : ℕ). Ready t limit (list_of new) (with_place i taken) Every j) more
                    (subst (λ (l : List Node). Ready t limit l (with_place i taken) Every (suc m)) (sym nodes) (ready_after f));
                same = ap (λ (l : List Node). next l (with_place i taken)) nodes ∙ sym (ap goes f) ∙ kept_is;
              }
