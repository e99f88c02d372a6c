-- What `find` has left is answered by value, by `kept_words`.
use Rattle.cheapest.proofs.Handed.{kept_words}
use Rattle.cheapest.proofs.searched_words.Goals as goal

pub returns : goal.returns
returns c =
    let a = c.args in
    kept_words a.file.now a.limit a.room c.find-sought.new.words c.find-sought.new.plan c.find-sought.result c.nodes_in-nodes.result
    c.find-sought.auto.words c.nodes_in-nodes.ensures c.find-sought.ensures.result_after
    c.find-sought.ensures.value c.find-sought.ensures.plan_after
