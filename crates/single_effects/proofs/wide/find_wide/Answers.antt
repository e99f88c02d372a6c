use borrow.Author.Rules.{rules}
use mathlib.Core.Path.{ap, ◌∙◌}
use mathlib.Core.Option.{some}
use Prim.Native.Nat.{◌+◌, ◌-◌, ◌≤◌, ◌<◌}
use native.Mathlib.Omega.{arith}
use lib.ListN.{length}
use Rattle.task.specs.Answers.{number_of}
use Rattle.task.specs.declared.Refusal.{Refusal}
use Rattle.single_effects.specs.Whole.{NoEffects}
use Rattle.single_effects.proofs.Seeking.{seeking_begins, none_found, seeking_on, seeking_through, found_here, seeking_past, no_both, no_more}
use Rattle.single_effects.proofs.wide.find_wide.Goals as goal

pub loop-i-init : goal.loop-i-init
loop-i-init c = (λ vs t e. seeking_begins c.args.marks.now vs t e, search rules, λ m a b q. omega arith)

pub returns-then-s-gt-MAX_CHOICES : goal.returns-then-s-gt-MAX_CHOICES
returns-then-s-gt-MAX_CHOICES c =
    let a = c.args in
    let inside : c.loop-i.i < length a.marks.now = search rules in record {
      last_in_bounds = tt;
      for_choices = ap (λ (r : Refusal). number_of r.cause) c.at.ensures;
      by_index = λ vs t e. ap (λ (r : Refusal). some r.place) c.at.ensures ∙ found_here a.marks.now vs t c.loop-i.i (c.loop-i.invariant.0 vs t e) inside (search rules) c.shape_of-s.result (c.shape_of-s.ensures.by_index vs) (search rules);
    }

pub loop-i-smaller-then-marks-i-eq-EFFECT : goal.loop-i-smaller-then-marks-i-eq-EFFECT
loop-i-smaller-then-marks-i-eq-EFFECT c =
    let s = c.shape_of-s.ensures.in_order in
    omega (arith, s.opened, s.whole, s.inside)

pub loop-i-preserved-then-marks-i-eq-EFFECT : goal.loop-i-preserved-then-marks-i-eq-EFFECT
loop-i-preserved-then-marks-i-eq-EFFECT c =
    let a = c.args in (
      λ vs t e. seeking_past a.marks.now vs t c.loop-i.i (c.loop-i.invariant.0 vs t e) (search rules) (search rules) c.shape_of-s.result (c.shape_of-s.ensures.by_index vs) (search rules),
      c.shape_of-s.ensures.in_order.inside,
      λ m f g q. omega arith,
    )

pub loop-i-smaller : goal.loop-i-smaller
loop-i-smaller c = omega (arith, c.past_others-i.ensures.lower_bound.0)

pub loop-i-preserved : goal.loop-i-preserved
loop-i-preserved c =
    let a = c.args in
    let ms = a.marks.now in
    let i = c.loop-i.i in
    let r = c.past_others-i.result in
    let others : NoEffects ms (i + 1) r = c.past_others-i.ensures.no_effects in (
      λ vs t e. seeking_through ms vs t (r - (i + 1)) (i + 1) r (omega (arith, c.past_others-i.ensures.lower_bound.0)) c.past_others-i.ensures.lower_bound.1 others
          (seeking_on ms vs t i (c.loop-i.invariant.0 vs t e) (search rules) (search rules)),
      c.loop-i.invariant.1,
      no_both ms c.loop-i.last (i + 1) r (no_more ms c.loop-i.last i c.loop-i.invariant.2 (search rules)) others,
    )

pub returns : goal.returns
returns c =
    let a = c.args in
    let through : length a.marks.now ≤ c.loop-i.i = search rules in record {
      last_in_bounds = (c.loop-i.invariant.1, λ m f g q. c.loop-i.invariant.2 m f (omega arith) q);
      for_choices = tt;
      by_index = λ vs t e. none_found a.marks.now vs t c.loop-i.i (c.loop-i.invariant.0 vs t e) through;
    }
