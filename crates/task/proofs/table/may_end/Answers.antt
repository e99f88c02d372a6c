-- The array is may_end of all contexts in their order, so entry i is may_end of context i: ListN.get_or-map.
use lib.ListN.{get_or-map}
use Rattle.task.specs.Check.{may_end, opening}
use Rattle.task.specs.Contexts.{contexts}
use Rattle.task.proofs.table.may_end.Goals as goal

pub returns : goal.returns
returns c = get_or-map may_end contexts c.args.context opening
