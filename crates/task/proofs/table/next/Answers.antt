-- What the table has for a context and a mark is the number of the context that follows: entry of Follow.
use Prim.Native.Nat.{◌<◌, ◌≤◌}
use native.Mathlib.Omega.{arith}
use borrow.Author.Rules.{rules}
use borrow.Author.Tests.{le-leb, lt-leb}
use Rattle.task.specs.Marks.{STEPS}
use Rattle.task.specs.File.{soft_mark}
use Rattle.task.proofs.Follow.{entry}
use Rattle.task.proofs.table.next.Goals as goal

pub returns-then-soft-gt-STEPS : goal.returns-then-soft-gt-STEPS
returns-then-soft-gt-STEPS c =
    let a = c.args in
    let far : STEPS < soft_mark a.mark = omega (arith, c.soft_mark-soft.ensures) in
    rw (lt-leb (soft_mark a.mark) STEPS far) at (entry a.context a.mark (search rules))

pub returns : goal.returns
returns c =
    let a = c.args in
    let near : soft_mark a.mark ≤ STEPS = omega (arith, c.soft_mark-soft.ensures) in
    rw (c.requires.0, c.soft_mark-soft.ensures)
    (rw (le-leb (soft_mark a.mark) STEPS near) at (entry a.context a.mark (search rules)))
