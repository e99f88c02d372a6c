use borrow.Author.Rules.{rules}
use Prim.Native.Nat.{◌<◌}
use native.Mathlib.Omega.{arith}
use lib.ListN.{length, get_or}
use Rattle.meaning.specs.Meaning.{preference_at}
use Rattle.lost_run.proofs.Seeing.{inside}
use Rattle.lost_run.proofs.Summing.{none_yet, goes_on, summed}
use Rattle.lost_run.proofs.rules.lost.Goals as goal

pub loop-k-init : goal.loop-k-init
loop-k-init c =
    let a = c.args in
    none_yet a.rows.now.marks.now a.rows.now.values.now a.rules.now a.ms.now a.closed

pub offset_bounds-rules-k : goal.offset_bounds-rules-k
offset_bounds-rules-k c = let few = c.requires.1.few in search rules

pub rule_at-r-requires : goal.rule_at-r-requires
rule_at-r-requires c =
    let a = c.args in
    let t = c.requires.0 in
    let R = c.requires.1 in
    let k = c.loop-k.k in
    let below : k < length t.preferences = omega (arith, R.many, c.loop-k-test) in
    (inside a.rows.now.marks.now a.rows.now.values.now (get_or a.rules.now k 0) (preference_at t k) (R.each k below), omega (arith, R.few, c.loop-k-test))

pub overflow_add-sum : goal.overflow_add-sum
overflow_add-sum c =
    let S = c.loop-k.invariant in
    let few = c.requires.1.few in
    search rules

pub loop-k-preserved : goal.loop-k-preserved
loop-k-preserved c =
    let a = c.args in
    let k = c.loop-k.k in
    goes_on a.rows.now.marks.now a.rows.now.values.now a.rules.now a.ms.now a.closed c.loop-k.sum k c.loop-k.invariant (search rules)
    c.rule_at-r.result (λ t R. c.rule_at-r.ensures (preference_at t k) (R.each k (omega (arith, R.many, c.loop-k-test))))
    c.lost_of-sum.result c.lost_of-sum.ensures.0 c.lost_of-sum.ensures.1

pub returns : goal.returns
returns c = λ t p R K.
    let a = c.args in
    summed a.rows.now.marks.now a.rows.now.values.now a.rules.now a.ms.now a.closed c.loop-k.sum c.loop-k.k c.loop-k.invariant (search rules) t p R K
