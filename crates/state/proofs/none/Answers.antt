-- No bit of 0 is set, by `Words`.
use Rattle.state.proofs.Words.{no_facts}
use Rattle.state.proofs.none.Goals as goal

pub returns : goal.returns
returns c = no_facts
