-- The four sizes are what size answers on the four pairs of bytes from 0 to 7.
use Rattle.task.proofs.sizes_of.Goals as goal

pub returns : goal.returns
returns c =
    rw (c.size.ensures, c.size-2.ensures, c.size-3.ensures, c.size-4.ensures)
