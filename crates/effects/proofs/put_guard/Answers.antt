-- The rows of each variant of the guard.
use mathlib.Core.Path.{subst}
use Prim.Native.Nat.{◌≤◌}
use lib.ListN.{length}
use Rattle.effects.specs.Effects.{guard_end}
use Rattle.effects.specs.declared.Guard.{Guard}
use Rattle.writer.proofs.Putting.{wrote_none}
use borrow.Author.Rules.{rules}
use Rattle.effects.proofs.put_guard.Goals as goal

pub copy_rows-requires : goal.copy_rows-requires
copy_rows-requires c =
    let a = c.args in
    let fits = subst (λ (g : Guard). guard_end g ≤ length a.rows.now.marks.now) c.in-Rows.is (search rules) in
    search rules

pub returns-in-Nothing : goal.returns-in-Nothing
returns-in-Nothing c =
    let a = c.args in
    rw c.in-Nothing.is (wrote_none (search rules))

pub returns-in-Holds : goal.returns-in-Holds
returns-in-Holds c = rw c.in-Holds.is c.put_single.ensures

pub returns-in-Lacks : goal.returns-in-Lacks
returns-in-Lacks c = rw c.in-Lacks.is c.put_single-in-Lacks.ensures

pub returns-in-BothHold : goal.returns-in-BothHold
returns-in-BothHold c = rw c.in-BothHold.is c.put_both.ensures

pub returns-in-BothLack : goal.returns-in-BothLack
returns-in-BothLack c = rw c.in-BothLack.is c.put_both-in-BothLack.ensures

pub returns-in-Rows : goal.returns-in-Rows
returns-in-Rows c = rw c.in-Rows.is c.copy_rows.ensures
