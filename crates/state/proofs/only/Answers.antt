-- One bit is set, by `Words`.
use Prim.Native.Nat.{◌-◌}
use Rattle.state.proofs.Bits.{shifted_one}
use Rattle.state.proofs.Words.{single-low, single-high, single-none}
use borrow.Author.Rules.{rules}
use Rattle.state.proofs.only.Goals as goal

pub returns-then-n-lt64 : goal.returns-then-n-lt64
returns-then-n-lt64 c = let n = c.args.n in rw (shifted_one n (search rules)) (single-low n (search rules))

pub returns-then-n-lt128 : goal.returns-then-n-lt128
returns-then-n-lt128 c = let n = c.args.n in rw (shifted_one (n - 64) (search rules)) (single-high n (search rules) (search rules))

pub returns-else-n-lt128 : goal.returns-else-n-lt128
returns-else-n-lt128 c = single-none c.args.n (search rules)
