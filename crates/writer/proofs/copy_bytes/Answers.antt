use mathlib.Core.Path.{refl}
use native.Mathlib.Omega.{arith}
use borrow.Author.Rules.{rules}
use Rattle.writer.proofs.Blocks.{size, copied_on, copied_all}
use Rattle.writer.proofs.copy_bytes.Goals as goal

pub loop-j-init : goal.loop-j-init
loop-j-init c = record { few = search rules; so_far = refl }

pub bounds-out-at : goal.bounds-out-at
bounds-out-at c = omega (arith, size c.loop-j.invariant, c.requires.0)

pub loop-j-preserved : goal.loop-j-preserved
loop-j-preserved c =
    copied_on c.loop-j.invariant (search rules) (search rules) _ refl

pub returns : goal.returns
returns c = copied_all c.loop-j.invariant (search rules)
