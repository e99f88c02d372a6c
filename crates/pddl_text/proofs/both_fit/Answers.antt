-- The lengths counted are those of the two texts.
use lib.Dec.{leb}
use mathlib.Core.Bool.{◌&&◌}
use Rattle.pddl_text.proofs.both_fit.Goals as goal

pub returns : goal.returns
returns c = λ t same spelled.
    let a = c.args in
    λ i. leb ((c.put_both-n.ensures.of_task t same spelled).size i) a.domain && leb ((c.put_both-n.ensures.of_task_2 t same spelled).size i) a.problem
