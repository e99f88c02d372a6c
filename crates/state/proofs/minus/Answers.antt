-- Word by word, by `Words`.
use borrow.Author.Rules.{rules}
use Rattle.state.proofs.Words.{removed}
use Rattle.state.proofs.minus.Goals as goal

pub returns : goal.returns
returns c = removed c.args.s c.args.t (search rules) (search rules) (search rules) (search rules)
