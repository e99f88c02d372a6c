use borrow.Author.Rules.{rules}
use mathlib.Core.Path.{◌≡◌}
use mathlib.Core.Bool.{true, ◌&&◌}
use Prim.Native.Nat.{◌+◌}
use native.Mathlib.Omega.{arith}
use lib.Dec.{T}
use borrow.Author.Tests.{not-false}
use Rattle.lists.proofs.Tests.{tests, as_t, as_true}
use Rattle.single_effects.specs.Whole.{NoEffects}
use Rattle.single_effects.proofs.Seeking.{no_both}
use Rattle.single_effects.proofs.wide.past_others.Goals as goal

pub loop-i-init : goal.loop-i-init
loop-i-init c = (search rules, search rules, λ m a b q. omega arith)

pub returns-then-not-four_others : goal.returns-then-not-four_others
returns-then-not-four_others c = let i = c.loop-i.invariant in record {
  lower_bound = (i.0, i.1);
  no_effects = i.2;
}

pub loop-i-preserved : goal.loop-i-preserved
loop-i-preserved c =
    let ms = c.args.marks.now in
    let i = c.loop-i.i in
    let passed : c.four_others.result && c.four_others-in-loop-i.result ≡ true = not-false (c.four_others.result && c.four_others-in-loop-i.result) c.if-not-four_others.false-raw in
    let both : T (c.four_others.result && c.four_others-in-loop-i.result) = as_t passed in
    let first : NoEffects ms i (i + 4) = c.four_others.ensures (as_true c.four_others.result (search tests)) in
    let second : NoEffects ms (i + 4) (i + 4 + 4) = c.four_others-in-loop-i.ensures (as_true c.four_others-in-loop-i.result (search tests)) in (
      search rules,
      search rules,
      no_both ms c.args.from i (i + 8) c.loop-i.invariant.2
          (no_both ms i (i + 4) (i + 8) first (λ m a b. second m a (omega arith))),
    )

pub returns : goal.returns
returns c = let i = c.loop-i.invariant in record {
  lower_bound = (i.0, i.1);
  no_effects = i.2;
}
