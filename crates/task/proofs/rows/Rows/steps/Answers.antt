-- Where a row follows, the steps are its value modulo 16, and else 0, as steps_at has it: the same test, and both below 16.
use borrow.Author.Tests.{le-leb, lt-leb}
use Prim.Native.Nat.{◌+◌}
use lib.ListN.{length}
use borrow.Author.Rules.{rules}
use Rattle.task.proofs.rows.Rows.steps.Goals as goal

pub returns-then-self-i : goal.returns-then-self-i
returns-then-self-i c =
    let a = c.args in
    (rw (le-leb (length a.self.now.marks.now) (a.i + 1) (search rules)), search rules)

pub returns : goal.returns
returns c =
    let a = c.args in (
      rw (lt-leb (length a.self.now.marks.now) (a.i + 1) (search rules), ← c.value.ensures),
      search rules,
    )
