use mathlib.Core.Path.{refl, ap, ◌∙◌}
use mathlib.Core.List.{List}
use Prim.Native.Nat.{ℕ, ◌+◌}
use native.Mathlib.Omega.{arith}
use lib.ListN.{get_or, take, drop}
use borrow.Author.Rules.{rules}
use Rattle.writer.proofs.Blocks.{size, copied_on, copied_all, sets_below}
use Rattle.writer.proofs.repeat_bytes.Goals as goal

pub loop-j-init : goal.loop-j-init
loop-j-init c = record { few = search rules; so_far = refl }

pub bounds-out-from : goal.bounds-out-from
bounds-out-from c = omega (arith, size c.loop-j.invariant, c.requires.0, c.requires.1)

pub bounds-out-at : goal.bounds-out-at
bounds-out-at c = omega (arith, size c.loop-j.invariant, c.requires.1)

pub loop-j-preserved : goal.loop-j-preserved
loop-j-preserved c =
    let a = c.args in
    let j = c.loop-j.j in
    copied_on c.loop-j.invariant (search rules) (search rules) _
    (ap (λ (o : List ℕ). get_or o (a.from + j) 0) c.loop-j.invariant.so_far
    ∙ sets_below (take j (drop a.from a.out.now)) a.out.now a.at (a.from + j) (search rules))

pub returns : goal.returns
returns c = copied_all c.loop-j.invariant (search rules)
