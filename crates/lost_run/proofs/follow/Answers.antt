use borrow.Author.Rules.{rules}
use mathlib.Core.Path.{subst, ◌∙◌, sym}
use Prim.Native.Nat.{◌<◌}
use native.Mathlib.Omega.{arith}
use Rattle.layout.specs.Counting.{AMPLE}
use Rattle.lost_run.specs.Run.{TakenAs, Little}
use Rattle.lost_run.proofs.Following.{begins, ends, stops, goes_on}
use Rattle.lost_run.proofs.follow.Goals as goal

pub loop-i-init : goal.loop-i-init
loop-i-init c =
    record {
      actions_left = search rules;
      little = search rules;
      all_there = c.requires.rows.1.sixteen;
      on = λ t B. begins t c.args.list.now c.args.s c.args.ms.now B.1 c.requires.rows.1.seen_none;
    }

pub take-taken-requires : goal.take-taken-requires
take-taken-requires c =
    let cost : c.loop-i.p.cost < AMPLE = omega (arith, c.loop-i.invariant.little, c.requires.rows.0, c.loop-i-test) in
    record {
      rows = (c.loop-i.invariant.all_there, cost, c.requires.all_below.0);
      setting = (c.requires.all_below.1.0, c.requires.all_below.1.1);
    }

pub shape_of-ms-in-None : goal.shape_of-ms-in-None
shape_of-ms-in-None c =
    c.take-taken.auto.ms ∙ c.loop-i.invariant.all_there ∙ sym c.requires.rows.1.sixteen

pub returns-in-None : goal.returns-in-None
returns-in-None c = λ t G O.
    let o = c.loop-i.invariant.on t (G, O) in
    let l' = c.take-taken.new.ms in
    stops t c.args.list.now c.loop-i.p c.loop-i.ms c.loop-i.i o (search rules) c.step_index.result c.step_index.ensures l'
    (subst (TakenAs t l' o.position c.step_index.result) c.in-None.is (c.take-taken.ensures.taken_as t o.position G o.stands))

pub loop-i-preserved : goal.loop-i-preserved
loop-i-preserved c =
    let p' = c.in-Some.q in
    let e = c.in-Some.is in
    let l' = c.take-taken.new.ms in
    let few = subst (Little c.loop-i.p) e c.take-taken.ensures.little in
    record {
      actions_left = search rules;
      little = omega (arith, c.loop-i.invariant.little, few);
      all_there = c.take-taken.auto.ms ∙ c.loop-i.invariant.all_there;
      on = λ t B.
          let o = c.loop-i.invariant.on t B in
          goes_on t c.args.list.now c.loop-i.p c.loop-i.ms c.loop-i.i o (search rules) c.step_index.result c.step_index.ensures l' p'
          (subst (TakenAs t l' o.position c.step_index.result) e (c.take-taken.ensures.taken_as t o.position B.0 o.stands));
    }

pub lost-requires : goal.lost-requires
lost-requires c =
    (c.requires.all_below.1.0, c.requires.all_below.1.1.all_rules)

pub shape_of-ms : goal.shape_of-ms
shape_of-ms c =
    c.loop-i.invariant.all_there ∙ sym c.requires.rows.1.sixteen

pub returns : goal.returns
returns c = λ t G O.
    let o = c.loop-i.invariant.on t (G, O) in
    ends t c.args.list.now c.loop-i.p c.loop-i.ms c.loop-i.i o (search rules) c.lost.result
    (c.lost.ensures t o.position G.all_rules o.stands.kept)
