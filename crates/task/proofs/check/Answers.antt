-- Each refusal is check's, and so is the walk over the two parts: short, wrong_sizes, wrong_length and walked of Checking.
use mathlib.Core.Path.{◌≡◌, sym, ◌∙◌}
use mathlib.Core.Bool.{true}
use Prim.Native.Nat.{◌≤◌}
use native.Mathlib.Omega.{arith}
use borrow.Author.Tests.{not-true, not-false}
use Rattle.task.specs.Check.{sizes_allowed}
use Rattle.task.specs.Answers.{as_sizes}
use Rattle.lists.proofs.Tests.{as_t}
use Rattle.task.proofs.Checking.{within, short, wrong_sizes, wrong_length, walked}
use borrow.Author.Rules.{rules}
use Rattle.task.proofs.check.Goals as goal
use Rattle.task.proofs.check.Goals.{Else-not-sizes_allowed}

allowed : (c : Else-not-sizes_allowed) → sizes_allowed (as_sizes c.sizes_of-z.result) ≡ true
allowed c = sym c.sizes_allowed.ensures ∙ not-false _ c.if-not-sizes_allowed.false-raw

few : (c : Else-not-sizes_allowed) → c.sizes_of-z.result.rows ≤ 12000
few c = (within (as_sizes c.sizes_of-z.result) (as_t (allowed c))).0

pub returns-then-file-lt8 : goal.returns-then-file-lt8
returns-then-file-lt8 c = rw c.at.ensures (sym (short c.args.file.now (search rules)))

pub returns-then-not-sizes_allowed : goal.returns-then-not-sizes_allowed
returns-then-not-sizes_allowed c = rw c.at-then-not-sizes_allowed.ensures
    (sym (wrong_sizes c.args.file.now (as_sizes c.sizes_of-z.result) c.sizes_of-z.ensures (search rules)
    (sym c.sizes_allowed.ensures ∙ not-true _ c.if-not-sizes_allowed.true-raw)))

pub overflow_mul-z : goal.overflow_mul-z
overflow_mul-z c = omega (arith, few (goal.at.overflow_mul-z c).Else-not-sizes_allowed)

pub returns-then-file-z : goal.returns-then-file-z
returns-then-file-z c =
    rw c.at-then-file-z.ensures
    (sym (wrong_length c.args.file.now (as_sizes c.sizes_of-z.result) c.sizes_of-z.ensures (search rules)
    (allowed (goal.at.returns-then-file-z c).Else-not-sizes_allowed) c.if-file-z.true))

pub returns : goal.returns
returns c =
    rw (c.rows_of.ensures.marks, c.rows_of.ensures.values) at c.walk_rows.ensures
    ∙ sym (walked c.args.file.now (as_sizes c.sizes_of-z.result) c.sizes_of-z.ensures (search rules)
    (allowed (goal.at.returns c).Else-not-sizes_allowed) c.if-file-z.false)
