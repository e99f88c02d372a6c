-- A number below 1,000 that has room by put_three, which writes three digits at most (few_digits_written of Writing), others by
-- put_large.
use Prim.Native.Nat.{◌+◌, ◌<◌}
use lib.Dec.{leb, ltb}
use lib.ListN.{length}
use borrow.Author.Tests.{ltb-true}
use Rattle.lists.proofs.Tests.{both_true}
use Rattle.text.proofs.Writing.{few_digits_written}
use borrow.Author.Rules.{rules}
use Rattle.text.proofs.put_decimal.Goals as goal
use Rattle.text.proofs.put_decimal.Goals.{Then-n-at}

small : (c : Then-n-at) → c.args.n < 1000
small c =
    let a = c.args in
    ltb-true a.n 1000 (both_true (ltb a.n 1000) (leb (a.at + 3) (length a.out.now)) c.if-n-at.true).0

pub returns-then-n-at : goal.returns-then-n-at
returns-then-n-at c =
    let a = c.args in
    record {
      wrote = c.put_three.ensures;
      upper_bound = few_digits_written a.out.now a.at a.n (search rules) c.put_three.new.out c.put_three.result (small (goal.at.returns-then-n-at c).Then-n-at) c.put_three.ensures;
    }
