use mathlib.Core.Path.{◌≡◌, ap, ◌∙◌}
use Prim.Native.Nat.{ℕ}
use native.Mathlib.Omega.{arith}
use mathlib.Core.List.{List}
use lib.ListN.{length, take}
use lib.Seq.{take_all}
use Rattle.text.specs.Area.{written}
use Rattle.text.proofs.Writing.{length-written, no_bytes, stored_more}
use borrow.Author.Rules.{rules}
use Rattle.text.proofs.copy_bytes.Goals as goal
use Rattle.text.proofs.copy_bytes.Goals.{At-loop-i}

size : (c : At-loop-i) → length c.loop-i.out ≡ length c.args.out.now
size c = let a = c.args in ap length c.loop-i.invariant.1 ∙ length-written (take c.loop-i.i a.word.now) a.out.now a.at

pub loop-i-init : goal.loop-i-init
loop-i-init c = (search rules, (no_bytes c.args.out.now c.args.at).area)

pub bounds-out-at : goal.bounds-out-at
bounds-out-at c = omega (arith, size (goal.at.bounds-out-at c).At-loop-i, c.requires)

pub loop-i-preserved : goal.loop-i-preserved
loop-i-preserved c =
    let a = c.args in
    (search rules, stored_more a.out.now a.at a.word.now c.loop-i.out c.loop-i.i (search rules) c.loop-i.invariant.1)

pub returns : goal.returns
returns c =
    let a = c.args in
    c.loop-i.invariant.1 ∙ ap (λ (x : List ℕ). written x a.at a.out.now) (take_all c.loop-i.i a.word.now (search rules))
