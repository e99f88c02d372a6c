-- The blocks where the rows stand are those that are to be put, by `repeated`.
use mathlib.Core.Path.{◌∙◌}
use Rattle.writer.proofs.Copying.{repeated}
use Rattle.writer.proofs.store_again.Goals as goal

pub returns : goal.returns
returns c =
    let room = c.requires.1 in
    λ xs held. c.repeat_bytes-2.ensures
    ∙ repeated held c.args.c.next c.min-many.result c.requires.2.before c.requires.0 room.few room.long c.min-many.ensures
    c.repeat_bytes.new.out c.repeat_bytes.ensures
