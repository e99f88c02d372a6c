-- The rows at the bits that are left make up all of them, the lowest bit's first (`RisingRows`).
use Rattle.spelling.proofs.RisingRows.{left, WritingWord}
use Rattle.spelling.proofs.rising.put_word.Given as goal

abbrev pub invariant-loop-rest : goal.invariant-loop-rest
invariant-loop-rest l = WritingWord l.initial.out l.initial.k (left l.a l.b l.base l.first l.second) l.initial.rest l.out l.k l.rest

abbrev pub decreases-loop-rest : goal.decreases-loop-rest
decreases-loop-rest l = l.rest
