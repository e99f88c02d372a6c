-- What a search answers, and what it keeps before it is handed over.
use Rattle.std.specs.Prelude.{◌≡◌, List, [], ℕ, ◌≤◌, length, replicate}
use Rattle.searching.specs.Limits.{MAX_NODES, MAX_FOUND}
use Rattle.searched.specs.Searched
use Rattle.searched.specs.Searched.{Answer, search_file}
use Rattle.node_words.specs.Words.{LIST_WORDS, nodes_of}
use Rattle.finding.specs.Finding.{as_searched, as_sought, plan_after}
use Rattle.cheapest.specs.declared.Searched.{Searched}
use Rattle.cheapest.specs.declared.Kept.{Kept}

abbrev pub answer : Searched → Answer
answer x = (as_searched x.steps [] x.sought).answer

-- the whole value for a search: how many nodes it keeps, and in the array zeros after the plan found, or zeros alone
abbrev pub by_value : Searched.Searched → Searched
by_value x = record { sought = as_sought x; steps = plan_after x.answer (replicate MAX_FOUND 0) }

-- the words of the nodes kept, for a list with so much room
pub record KeptAs (b : List ℕ) (limit room : ℕ) (k : Kept) : Type 0 where
  pub long : length k.words ≡ LIST_WORDS
  pub fits : k.nodes ≤ room
  pub few : k.nodes ≤ MAX_NODES
  pub says : answer k.searched ≡ (search_file b limit room).answer
  pub answers : k.searched ≡ by_value (search_file b limit room)
  pub holds : nodes_of k.words k.nodes ≡ (search_file b limit room).kept
