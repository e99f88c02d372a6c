-- What the search over words keeps is filled into the list: `handed`.
use Rattle.cheapest.proofs.Handed.{handed}
use Rattle.cheapest.proofs.search.Goals as goal

pub returns : goal.returns
returns c =
    let k = c.searched_words-k in
    handed c.args.file.now c.args.limit c.args.nodes.now c.fill.new.nodes k.result k.ensures c.fill.ensures
