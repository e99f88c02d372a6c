use native.Mathlib.Omega.{arith}
use Rattle.writer.proofs.Putting.{kept_none, kept_on}
use Rattle.translated_rows.specs.Parts.{preferences_to}
use Rattle.translated_rows.proofs.PartRows.{ending_on, ending_all, ending_full}
use borrow.Author.Rules.{rules}
use Rattle.translated_rows.proofs.parts.put_all_closed.Goals as goal

pub loop-fact-init : goal.loop-fact-init
loop-fact-init c =
    let a = c.args in
    record {
      kept = kept_none (search rules);
      so_far = record { number = 0; left = preferences_to a.facts a.ended; fact = omega arith; together = omega arith; onward = λ r o w. w };
    }

pub returns-then-k-ge-OVERFULL : goal.returns-then-k-ge-OVERFULL
returns-then-k-ge-OVERFULL c =
    let a = c.args in
    ending_full a.facts a.ended c.loop-fact.invariant.kept.room (search rules) c.loop-fact.invariant.so_far

pub loop-fact-preserved : goal.loop-fact-preserved
loop-fact-preserved c =
    let a = c.args in
    record {
      kept = kept_on c.loop-fact.invariant.kept c.put_single-k.auto.out c.put_single-k.ensures;
      so_far = ending_on a.facts a.ended (search rules) c.put_single-k.ensures c.loop-fact.invariant.so_far;
    }

pub returns : goal.returns
returns c =
    let a = c.args in
    ending_all a.facts a.ended c.loop-fact.invariant.kept.room (search rules) c.loop-fact.invariant.so_far

pub returns-else-k-ge-OVERFULL : goal.returns-else-k-ge-OVERFULL
returns-else-k-ge-OVERFULL c =
    let a = c.args in
    ending_all a.facts a.ended c.put_single-k.ensures.room (search rules) (ending_on a.facts a.ended (search rules) c.put_single-k.ensures c.loop-fact.invariant.so_far)
