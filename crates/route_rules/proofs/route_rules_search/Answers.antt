-- The words are put_sought's of what cheapest answers, and the list and the area are as it leaves them.
use mathlib.Core.Path.{◌∙◌}
use Prim.Native.Nat.{◌/◌}
use lib.ListN.{length}
use Rattle.optimal.proofs.Optimal.{optimal_on}
use Rattle.searched.specs.Searched.{search_file}
use Rattle.words.proofs.Sought.{sought_words}
use Rattle.words.proofs.Told.{sought_told}
use Rattle.route_rules.proofs.route_rules_search.Goals as goal

pub returns : goal.returns
returns c =
    let a = c.args in
    let s = c.search in record {
      answer_after = c.put_sought.ensures
          ∙ sought_told s.result
          ∙ sought_words s.result _ _ (search_file a.file.now a.limit (length a.nodes.now / 4)) s.ensures.value s.ensures.result_after;
      lent_words = s.ensures.lent_words;
      plan_after = s.ensures.plan_after;
      claim = s.ensures.claim;
      optimal_on = optimal_on a.file.now a.limit (length a.nodes.now / 4);
    }
