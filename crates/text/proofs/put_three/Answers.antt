-- Below 100 by put_two, else the digits of n / 10 by it and then the last: last-digit of Writing.
use native.Mathlib.Omega.{arith}
use Prim.Native.Nat.{◌+◌, ◌^◌, ◌<◌}
use Rattle.text.proofs.Decimal.{nineteen_digits}
use Rattle.text.proofs.Writing.{last-digit}
use borrow.Author.Rules.{rules}
use Rattle.text.proofs.put_three.Goals as goal

pub put_byte-requires : goal.put_byte-requires
put_byte-requires c =
    let a = c.args in
    let room : a.at + 20 < 2 ^ 64 = search rules in
    omega (arith, c.put_two-k.ensures.after, nineteen_digits a.n (search rules))

pub returns-else-n-lt100 : goal.returns-else-n-lt100
returns-else-n-lt100 c =
    let a = c.args in
    (last-digit a.out.now a.at a.n (search rules) c.put_two-k.new.out c.put_byte.new.out
    c.put_two-k.result c.put_byte.result (search rules) c.put_two-k.ensures c.put_byte.ensures).0
