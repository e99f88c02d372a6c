use Rattle.translated_rows.proofs.PartRows.{before_own, acted_on, acted_all, acted_full}
use borrow.Author.Rules.{rules}
use Rattle.translated_rows.proofs.parts.put_actions.Goals as goal

pub returns-then-k-ge-OVERFULL : goal.returns-then-k-ge-OVERFULL
returns-then-k-ge-OVERFULL c =
    let a = c.args in
    acted_full a.rows.now.marks.now a.rows.now.values.now a.facts a.s.from a.s.to a.normal a.starts.now c.requires.1 c.loop-j.invariant (search rules)

pub put_trackers-k-requires : goal.put_trackers-k-requires
put_trackers-k-requires c =
    let a = c.args in
    let p = c.requires.1 in record {
      room = (c.put_own-own.ensures.room, p.noted);
      before = before_own a.rows.now.marks.now a.rows.now.values.now a.facts a.s.from a.s.to a.normal a.starts.now p c.loop-j.invariant c.put_own-own.ensures;
    }

pub loop-j-preserved : goal.loop-j-preserved
loop-j-preserved c =
    let a = c.args in
    acted_on a.rows.now.marks.now a.rows.now.values.now a.facts a.s.from a.s.to a.normal a.starts.now c.requires.1 c.loop-j.invariant c.loop-j-test.true
    c.skip_marks-mid.result c.skip_marks-next.result c.skip_marks-mid.ensures.value c.skip_marks-next.ensures.value
    c.put_trackers-k.auto.out c.put_own-own.auto.out c.put_own-own.ensures c.put_trackers-k.ensures

pub returns : goal.returns
returns c =
    let a = c.args in
    acted_all a.rows.now.marks.now a.rows.now.values.now a.facts a.s.from a.s.to a.normal a.starts.now c.requires.1 c.loop-j.invariant (search rules)
