-- The next rule, if there is one, closed by `Leading`.
use borrow.Author.Rules.{rules}
use mathlib.Core.Path.{subst⁻¹}
use Prim.Native.Nat.{◌<◌}
use native.Mathlib.Omega.{arith}
use lib.ListN.{length, get_or}
use Rattle.meaning.specs.Meaning.{preference_at}
use Rattle.lost_run.specs.Run.{TakenAs}
use Rattle.lost_run.proofs.Seeing.{inside}
use Rattle.lost_run.proofs.Leading.{none_left, closed_as}
use Rattle.lost_run.proofs.taking.close_next.Goals as goal

pub returns-then-rules-k : goal.returns-then-rules-k
returns-then-rules-k c =
    let a = c.args in
    record {
      little = tt;
      taken_as = λ t q R E. none_left t a.ms.now a.actions a.p q E a.j (omega (arith, R.many, c.if-rules-k.true));
    }

pub offset_bounds-rules-k : goal.offset_bounds-rules-k
offset_bounds-rules-k c = let few = c.requires.0.1.few in search rules

pub rule_at-x-requires : goal.rule_at-x-requires
rule_at-x-requires c =
    let a = c.args in
    let t = c.requires.0.0 in
    let R = c.requires.0.1 in
    let k = a.p.closed in
    let below : k < length t.preferences = omega (arith, R.many, c.if-rules-k.false) in
    (inside a.rows.now.marks.now a.rows.now.values.now (get_or a.rules.now k 0) (preference_at t k) (R.each k below), omega (arith, R.few, c.if-rules-k.false))

pub close-requires : goal.close-requires
close-requires c =
    let few = c.requires.0.1.few in
    search rules

pub returns : goal.returns
returns c =
    let a = c.args in
    let k = a.p.closed in record {
      little = c.close.ensures.1;
      taken_as = λ t q R E.
          let h : k < length t.preferences = omega (arith, R.many, c.if-rules-k.false) in
          subst⁻¹ (TakenAs t a.ms.now q a.j) c.close.ensures.0
          (closed_as t a.ms.now a.actions a.p q E a.j h c.rule_at-x.result (c.rule_at-x.ensures (preference_at t k) (R.each k h)));
    }
