-- The stores of the mark and of the four bytes are those of `put_row`, since there is room.
use mathlib.Core.Path.{◌∙◌}
use Prim.Native.Nat.{◌+◌, ◌*◌}
use lib.ListN.{set}
use borrow.Author.Tests.{lt-ltb}
use borrow.Author.Rules.{rules}
use Rattle.task.specs.File.{bytes32}
use Rattle.writer.specs.Writer.{put_row}
use Rattle.writer.proofs.Blocks.{sets_part}
use Rattle.writer.proofs.store_row.Goals as goal

pub returns : goal.returns
unfolding put_row
returns c =
    let a = c.args in
    let room = c.requires.1 in
    let k = 8 + a.c.rows + 4 * a.c.next in
    rw (lt-ltb a.c.next a.c.rows (search rules))
    (sets_part k _ (set a.out.now (8 + a.c.next) a.mark) c.copy_from_slice.new.self (bytes32 a.value) (c.copy_from_slice.ensures.after ∙ c.to_le_bytes.ensures) (search rules) (search rules))
