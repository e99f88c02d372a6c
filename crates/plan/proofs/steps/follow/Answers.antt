use borrow.Author.Rules.{rules}
use mathlib.Core.Path.{◌≡◌, refl, subst, ◌∙◌, sym}
use Prim.Native.Nat.{ℕ, ◌<◌}
use native.Mathlib.Omega.{arith}
use lib.ListN.{length, get_or}
use Rattle.std.specs.Prelude.{Result, Ok, Err}
use Rattle.meaning.specs.Task.{Task}
use Rattle.layout.specs.Counting.{AMPLE}
use Rattle.layout.specs.Actions.{ActionAt}
use Rattle.plan.specs.Steps.{StepAnswer, Little, Start}
use Rattle.plan.specs.declared.steps.Position.{Position}
use Rattle.plan.proofs.Running.{watched_ones, known, begins, ends, stops, goes_on}
use Rattle.plan.proofs.steps.follow.Goals as goal
use Rattle.plan.proofs.steps.follow.Goals.{After-step-moved, After-step_index}

-- the step is the number of an entry
entry : (c : After-step_index)
    → c.step_index.result < length c.args.starts.now
entry c =
    known (length c.args.starts.now) c.args.plan.now c.requires.all_below.1 c.loop-i.i (search rules) c.step_index.result c.step_index.ensures

-- the row that the step's entry names opens its action
action : (c : After-step_index)
    → (t : Task) → Start c.args.rows.now.marks.now c.args.rows.now.values.now c.args.places c.args.starts.now c.args.s t
    → ActionAt c.args.rows.now.marks.now c.args.rows.now.values.now (get_or c.args.starts.now c.step_index.result 0) t c.step_index.result
action c t S =
    let k = c.step_index.result in
    let h : k < length t.actions = subst (λ (n : ℕ). k < n) S.all_actions (entry c) in
    record { spells = S.placed.spells; known = h; begins = S.actions k h }

-- a step by that action
moves : (c : After-step-moved)
    → (r : Result Position ℕ) → c.step-moved.result ≡ r → (t : Task)
    → Start c.args.rows.now.marks.now c.args.rows.now.values.now c.args.places c.args.starts.now c.args.s t
    → StepAnswer t c.step_index.result c.looked_on.result r
moves c r e t S =
    let entry' : c.step_index.result < length c.args.starts.now = known (length c.args.starts.now) c.args.plan.now c.requires.all_below.1 c.loop-i.i (search rules) c.step_index.result c.step_index.ensures in
    let action' : (t : Task) → Start c.args.rows.now.marks.now c.args.rows.now.values.now c.args.places c.args.starts.now c.args.s t → ActionAt c.args.rows.now.marks.now c.args.rows.now.values.now (get_or c.args.starts.now c.step_index.result 0) t c.step_index.result = λ t S. let k = c.step_index.result in
    let h : k < length t.actions = subst (λ (n : ℕ). k < n) S.all_actions entry' in
    record { spells = S.placed.spells; known = h; begins = S.actions k h } in
    let k = c.step_index.result in
    subst (StepAnswer t k c.looked_on.result) e (c.step-moved.ensures.step_answer t k (action' t S))

pub loop-i-init : goal.loop-i-init
loop-i-init c =
    record {
      steps_left = search rules;
      little = search rules;
      few_literals = search rules;
      all_there = c.requires.all_below.2.sixteen;
      stands = λ t S. begins t c.args.plan.now _ _ S.opens c.requires.all_below.2.seen_none refl refl;
    }

pub watch-seen-requires : goal.watch-seen-requires
watch-seen-requires c = record {
  rows = c.loop-i.invariant.all_there;
  some_preferences = (c.requires.start.0.preferences, watched_ones c.requires.start.1);
}

pub offset_bounds-starts-step_index : goal.offset_bounds-starts-step_index
offset_bounds-starts-step_index c = let h = entry c in search rules

pub bounds-starts-step_index : goal.bounds-starts-step_index
bounds-starts-step_index c = entry (goal.at.bounds-starts-step_index c).After-step_index

pub step-moved-requires : goal.step-moved-requires
step-moved-requires c =
    let short = c.requires.rows.0 in
    let cost : c.looked_on.result.cost < AMPLE = omega (arith, c.looked_on.ensures.1, c.loop-i.invariant.little, short, c.loop-i.invariant.steps_left) in
    let looked : c.looked_on.result.looked < AMPLE =
    omega (arith, c.looked_on.ensures.2, c.watch-seen.ensures.upper_bound, c.loop-i.invariant.few_literals, short, c.loop-i.invariant.steps_left) in record {
      rows = (
        known (length c.args.rows.now.marks.now) c.args.starts.now c.requires.all_below.0 c.step_index.result (entry (goal.at.step-moved-requires c).After-step_index) _ refl,
        record { cost = cost; looked = looked },
      );
      some_action = (c.requires.start.0, c.step_index.result, action (goal.at.step-moved-requires c).After-step_index c.requires.start.0 c.requires.start.1);
    }

pub shape_of-ms-in-Err : goal.shape_of-ms-in-Err
shape_of-ms-in-Err c =
    c.watch-seen.auto.ms ∙ c.loop-i.invariant.all_there ∙ sym c.requires.all_below.2.sixteen

pub returns-in-Err : goal.returns-in-Err
returns-in-Err c = λ t S.
    stops t c.args.plan.now c.loop-i.p c.loop-i.ms c.loop-i.i (c.loop-i.invariant.stands t S) (search rules) c.step_index.result c.step_index.ensures
    c.looked_on.result c.looked_on.ensures.0 c.looked_on.ensures.1 c.watch-seen.result c.looked_on.ensures.2
    c.watch-seen.new.ms (c.watch-seen.ensures.for_preferences t.preferences (watched_ones S))
    _ (moves (goal.at.returns-in-Err c).After-step-moved (Err c.in-Err.looked) c.in-Err.is t S)

pub loop-i-preserved : goal.loop-i-preserved
loop-i-preserved c =
    let q = c.in-Ok.q in
    let few = subst (Little c.looked_on.result) c.in-Ok.is c.step-moved.ensures.little in
    record {
      steps_left = search rules;
      little = omega (arith, c.loop-i.invariant.little, few, c.looked_on.ensures.1);
      few_literals = omega (arith, c.loop-i.invariant.few_literals, few, c.looked_on.ensures.2, c.watch-seen.ensures.upper_bound);
      all_there = c.watch-seen.auto.ms ∙ c.loop-i.invariant.all_there;
      stands = λ t S.
          goes_on t c.args.plan.now c.loop-i.p c.loop-i.ms c.loop-i.i (c.loop-i.invariant.stands t S) (search rules) c.step_index.result c.step_index.ensures
          c.looked_on.result c.looked_on.ensures.0 c.looked_on.ensures.1 c.watch-seen.result c.looked_on.ensures.2
          c.watch-seen.new.ms (c.watch-seen.ensures.for_preferences t.preferences (watched_ones S))
          q (moves (goal.at.loop-i-preserved c).After-step-moved (Ok q) c.in-Ok.is t S);
    }

pub finish-requires : goal.finish-requires
finish-requires c =
    let w = c.loop-i.invariant in
    let few = w.few_literals in
    let s = w.stands c.requires.start.0 c.requires.start.1 in record {
      rows = (search rules, search rules, w.all_there);
      end = (c.requires.start.0, s.monitors, record { placed = c.requires.start.1.placed; monitors = s.are });
    }

pub shape_of-ms : goal.shape_of-ms
shape_of-ms c =
    c.finish.auto.ms ∙ c.loop-i.invariant.all_there ∙ sym c.requires.all_below.2.sixteen

pub returns : goal.returns
returns c = λ t S.
    let s = c.loop-i.invariant.stands t S in
    c.finish.ensures t s.monitors (record { placed = S.placed; monitors = s.are })
    ∙ ends t c.args.plan.now c.loop-i.p c.loop-i.ms c.loop-i.i s (search rules)
