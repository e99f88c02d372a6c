-- A union with one fact.
use mathlib.Core.Path.{ap, ◌∙◌}
use Rattle.state.specs.Member.{member, union}
use Rattle.state.proofs.with.Goals as goal

pub returns : goal.returns
returns c = c.join.ensures ∙ ap (union (member c.args.s)) c.only.ensures
