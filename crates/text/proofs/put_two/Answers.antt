-- Below 10 one digit, else the digit of n / 10 and then the last: one_digit and last-digit of Writing.
use Prim.Native.Nat.{◌/◌}
use Rattle.text.proofs.Writing.{one_digit, last-digit}
use borrow.Author.Rules.{rules}
use Rattle.text.proofs.put_two.Goals as goal

pub returns-then-n-lt10 : goal.returns-then-n-lt10
returns-then-n-lt10 c =
    let a = c.args in
    (one_digit a.out.now a.at a.n (search rules) c.put_byte.new.out c.put_byte.result (search rules) c.put_byte.ensures).0

pub returns-else-n-lt10 : goal.returns-else-n-lt10
returns-else-n-lt10 c =
    let a = c.args in
    let tens = one_digit a.out.now a.at (a.n / 10) (search rules) c.put_byte-k.new.out c.put_byte-k.result (search rules) c.put_byte-k.ensures in
    (last-digit a.out.now a.at a.n (search rules) c.put_byte-k.new.out c.put_byte-else-n-lt10.new.out
    c.put_byte-k.result c.put_byte-else-n-lt10.result (search rules) tens.0 c.put_byte-else-n-lt10.ensures).0
