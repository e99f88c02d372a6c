use borrow.Author.Rules.{rules}
use mathlib.Core.Path.{◌≡◌, refl, sym, ◌∙◌}
use mathlib.Core.Bool.{Bool, true, false}
use Prim.Native.Nat.{ℕ, suc, ◌+◌, ◌/◌, ◌<◌}
use native.Mathlib.Omega.{arith}
use Rattle.meaning.specs.Task.{Task}
use Rattle.meaning.specs.Meaning.{is_true}
use Rattle.state.specs.Member.{member}
use Rattle.node_words.specs.Words.{Placed, packed_at, state_of}
use Rattle.tournament.specs.Tournament.{entry_at, Nowhere, OnWay, Played, with_leaf}
use Rattle.tournament.proofs.Owners.{rewritten}
use Rattle.searching.specs.Search.{with_place}
use Rattle.meeting.specs.Meeting.{nodes_in, open_below}
use Rattle.expanding.specs.Expanding.{Listed, Expanding}
use Rattle.exploring.specs.Exploring.{Opened}
use Rattle.exploring.proofs.Turning.{Turning, turning_first, goal_is, room, ended_last, ended_none, here, ended_found, expanding, ended_full, turning_on}
use Rattle.exploring.proofs.explore.Goals as goal
use Rattle.exploring.proofs.explore.Goals.{In-Some, After-meets_goal, After-set_leaf}

pub loop-turn-init : goal.loop-turn-init
loop-turn-init c = λ t L O. (λ i. false, turning_first L O c.args.limit c.requires.node_limit.some)

pub returns-in_default : goal.returns-in_default
returns-in_default c = λ t L O.
    ended_none c.requires.node_limit.few (c.loop-turn.invariant t L O).1 c.loop-turn-test.true c.in_default.ensures

-- a place is taken
module _ (c : In-Some) where
  abbrev i : ℕ
  i = c.in-Some.place

  abbrev Rowed : Task → Type 0
  Rowed = Listed c.args.rows.now.marks.now c.args.rows.now.values.now c.args.starts.now

  abbrev Begun : Task → Type 0
  Begun = Opened c.args.goal c.args.words.now c.args.index.now.table c.args.index.now.tree

  left : c.loop-turn._turn < c.args.limit
  left = c.loop-turn-test.true

  root : entry_at c.loop-turn.index.tree 1 ≡ suc i
  root = c.in-Some.ensures

  module _ (t : Task) (L : Rowed t) (O : Begun t) where
    abbrev taken : ℕ → Bool
    taken = (c.loop-turn.invariant t L O).0

    abbrev R : Turning t c.args.limit c.loop-turn._turn (nodes_in c.loop-turn.words c.loop-turn.index.table c.loop-turn.index.tree c.loop-turn.n taken)
    R = (c.loop-turn.invariant t L O).1

    games : Played c.loop-turn.index.tree c.loop-turn.words (open_below c.loop-turn.n taken) (OnWay ((1024 + i) / 2))
    games =
        rewritten c.loop-turn.index.tree c.loop-turn.words (open_below c.loop-turn.n taken) R.held.played c.loop-turn.words i (λ q d. refl) refl

  placed : Placed c.loop-turn.words i
  placed =
      let p = c.requires.listed in
      let limits = c.requires.node_limit in
      let r = R p.0 p.1 p.2 in
      let few : i < 1024 = omega (arith, here limits.few r left i root, room limits.few r, limits.few) in
      record { few = few; room = omega (arith, r.held.long) }

pub meets_goal-requires : goal.meets_goal-requires
meets_goal-requires c = placed (goal.at.meets_goal-requires c).In-Some

-- what the goal's condition says of the place that is taken
goal_says : (c : After-meets_goal) → let a = c.args in
    (t : Task) → Listed a.rows.now.marks.now a.rows.now.values.now a.starts.now t → Opened a.goal a.words.now a.index.now.table a.index.now.tree t
    → (b : Bool) → c.meets_goal.result ≡ b → is_true (member (state_of (packed_at c.loop-turn.words c.in-Some.place))) t.goal ≡ b
goal_says c t L O b e = sym (goal_is L O c.loop-turn.words c.in-Some.place) ∙ sym c.meets_goal.ensures ∙ e

pub returns-then-meets_goal : goal.returns-then-meets_goal
returns-then-meets_goal c = λ t L O.
    let g = goal.at.returns-then-meets_goal c in
    let l = g.In-Some in
    ended_found c.requires.node_limit.few (R l t L O) (left l) (i l) (root l) (goal_says g.After-meets_goal t L O true c.if-meets_goal.true)

pub set_leaf-requires : goal.set_leaf-requires
set_leaf-requires c =
    let l = (goal.at.set_leaf-requires c).In-Some in
    let p = c.requires.listed in
    record {
      placed = placed l;
      by_index = (open_below c.loop-turn.n (taken l p.0 p.1 p.2), games l p.0 p.1 p.2);
    }

-- its leaf has been closed
module _ (c : After-set_leaf) (t : Task) (L : Listed c.args.rows.now.marks.now c.args.rows.now.values.now c.args.starts.now t)
    (O : Opened c.args.goal c.args.words.now c.args.index.now.table c.args.index.now.tree t) where
  abbrev turn_taken : ℕ → Bool
  turn_taken = (c.loop-turn.invariant t L O).0

  no : is_true (member (state_of (packed_at c.loop-turn.words c.in-Some.place))) t.goal ≡ false
  no = sym (goal_is L O c.loop-turn.words c.in-Some.place) ∙ sym c.meets_goal.ensures ∙ c.if-meets_goal.false

  closed : Played c.set_leaf.new.tree c.loop-turn.words (with_leaf c.in-Some.place false (open_below c.loop-turn.n turn_taken)) Nowhere
  closed =
      let open_ones = open_below c.loop-turn.n turn_taken in
      c.set_leaf.ensures open_ones
      (rewritten c.loop-turn.index.tree c.loop-turn.words open_ones (c.loop-turn.invariant t L O).1.held.played c.loop-turn.words c.in-Some.place
      (λ q d. refl) refl)

  starts_turn : Expanding (record { place = c.in-Some.place; nodes = c.loop-turn.n; limit = c.args.limit })
      (nodes_in c.loop-turn.words c.loop-turn.index.table c.set_leaf.new.tree c.loop-turn.n (with_place c.in-Some.place turn_taken)) t
  starts_turn =
      expanding c.requires.node_limit.few (c.loop-turn.invariant t L O).1 c.loop-turn-test.true c.in-Some.place c.in-Some.ensures
      L c.set_leaf.new.tree closed

pub expand-requires : goal.expand-requires
expand-requires c =
    let f = (goal.at.expand-requires c).After-set_leaf in
    let p = c.requires.listed in
    (p.0, with_place c.in-Some.place (turn_taken f p.0 p.1 p.2), p.1, starts_turn f p.0 p.1 p.2)

pub returns-in_default-expand : goal.returns-in_default-expand
returns-in_default-expand c = λ t L O.
    let f = (goal.at.returns-in_default-expand c).After-set_leaf in
    let i = c.in-Some.place in
    ended_full c.requires.node_limit.few (c.loop-turn.invariant t L O).1 c.loop-turn-test.true i c.in-Some.ensures L c.set_leaf.new.tree
    (closed f t L O) (no f t L O)
    (c.in_default-expand.ensures.expanded t (with_place i (turn_taken f t L O)) L (starts_turn f t L O)) (omega arith)

pub loop-turn-preserved : goal.loop-turn-preserved
loop-turn-preserved c = λ t L O.
    let f = (goal.at.loop-turn-preserved c).After-set_leaf in
    let i = c.in-Some.place in
    let after = with_place i (turn_taken f t L O) in (
      after,
      turning_on c.requires.node_limit.few (c.loop-turn.invariant t L O).1 c.loop-turn-test.true i c.in-Some.ensures L c.set_leaf.new.tree
          (closed f t L O) (no f t L O)
          (c.in-Some-expand.ensures.expanded t after L (starts_turn f t L O)) c.in-Some-expand.ensures.within,
    )

pub returns : goal.returns
returns c = λ t L O. ended_last c.requires.node_limit.few (c.loop-turn.invariant t L O).1 (search rules)
