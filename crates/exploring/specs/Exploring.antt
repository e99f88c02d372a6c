-- A search before its first turn, and what its end stands for.
use Rattle.std.specs.Prelude.{◌≡◌, false, List, ℕ, ◌+◌, length}
use Rattle.lists.specs.Lists.{singleton}
use Rattle.meaning.specs.Task.{Task}
use Rattle.searching.specs.Search
use Rattle.searching.specs.Search.{opening_node, Answer, answer}
use Rattle.node_words.specs.Words.{nodes_of}
use Rattle.meeting.specs.Meeting.{nodes_in, Held}
use Rattle.exploring.specs.declared.Ended.{Ended}
use Rattle.exploring.specs.declared.Ended.TheVariants.{Found, NoPlan, Full}

-- the opening node alone is held, and no place is taken
pub record Opened (goal : ℕ) (words table tree : List ℕ) (t : Task) : Type 0 where
  pub goal_at : goal ≡ length t.start + 1
  pub held : Held (nodes_in words table tree 1 (λ i. false))
  pub first : nodes_of words 1 ≡ singleton (opening_node t)

abbrev pub as_answer : List ℕ → Ended → Answer
as_answer words (Found i n) = answer (Search.found i) (nodes_of words n)
as_answer words (NoPlan n) = answer Search.no_plan (nodes_of words n)
as_answer words (Full n) = answer Search.full (nodes_of words n)
