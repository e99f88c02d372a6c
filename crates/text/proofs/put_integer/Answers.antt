-- Below 0 a minus sign and then the digits, else the digits alone: minus and plain of Signed, in turn by then of Writing.
use Rattle.text.proofs.Writing.{then}
use Rattle.text.proofs.Signed.{below, minus}
use borrow.Author.Rules.{rules}
use Rattle.text.proofs.put_integer.Goals as goal

pub returns-then-n-lt0 : goal.returns-then-n-lt0
returns-then-n-lt0 c =
    let z = c.args.n in
    let e = minus z c.ranges.n c.unsigned_abs.result c.unsigned_abs.ensures.value (below z c.ranges.n c.if-n-lt0.true) in
    record { wrote = rw e (then c.put_byte-a.ensures c.put_decimal.ensures.wrote); upper_bound = search rules }
