-- The two blocks are the rows put in turn, by `copied`.
use mathlib.Core.Path.{◌∙◌, ap}
use mathlib.Core.List.{List}
use Prim.Native.Nat.{ℕ, ◌+◌, ◌*◌}
use native.Mathlib.Omega.{arith}
use lib.ListN.{take, drop}
use lib.Seq.{sets}
use borrow.Author.Rules.{rules}
use Rattle.writer.proofs.Copying.{copied}
use Rattle.writer.proofs.store_rows.Goals as goal

pub returns : goal.returns
returns c =
    let a = c.args in
    let i = a.c.next in
    let n = a.c.rows in
    let vs = a.rows.now.values.now in
    let k = c.min-many.result in
    c.copy_bytes-2.ensures
    ∙ ap (λ (l : List ℕ). sets l (8 + n + 4 * i) (take (4 * k) (drop (4 * a.s.from) vs))) c.copy_bytes.ensures
    ∙ copied a.rows.now.marks.now vs a.s.from a.s.to a.out.now n i k a.rows.now.fit a.rows.now.bytes (search rules) (search rules)
    (omega (arith, c.requires.0)) c.min-many.ensures
