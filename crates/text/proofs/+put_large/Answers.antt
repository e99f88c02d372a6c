-- Below 1,000 by put_three, else the digits of n / 10 and then the last: last-digit of Writing.
use native.Mathlib.Omega.{arith}
use Rattle.text.proofs.Decimal.{nineteen_digits}
use Rattle.text.proofs.Writing.{few_digits_written, last-digit}
use borrow.Author.Rules.{rules}
use Rattle.text.proofs.+put_large.Goals as goal

pub put_byte-requires : goal.put_byte-requires
put_byte-requires t c = omega (arith, c.put_large-k.ensures.wrote.after, nineteen_digits c.args.n (search rules))

pub returns-then-n-lt1000-clause-upper_bound : goal.returns-then-n-lt1000-clause-upper_bound
returns-then-n-lt1000-clause-upper_bound t c =
    let a = c.args in
    few_digits_written a.out.now a.at a.n (search rules) c.put_three.new.out c.put_three.result (search rules) c.put_three.ensures

pub returns-else-n-lt1000 : goal.returns-else-n-lt1000
returns-else-n-lt1000 t c =
    let a = c.args in
    let k = c.put_large-k in
    let both = last-digit a.out.now a.at a.n (search rules) k.new.out c.put_byte.new.out
    k.result c.put_byte.result (search rules) k.ensures.wrote c.put_byte.ensures in
    record { wrote = both.0; upper_bound = both.1 }
