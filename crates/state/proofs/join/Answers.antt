-- Word by word, by `Words`.
use Rattle.state.proofs.Words.{joined}
use Rattle.state.proofs.join.Goals as goal

pub returns : goal.returns
returns c = joined c.args.s c.args.t
