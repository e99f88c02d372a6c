-- What search answers on a task file, a limit, and a list with room for so many nodes: document 02, request 11.
use Rattle.std.specs.Prelude.{◌≡◌, Bool, cond, ◌&&◌, List, [], map, ℕ, eqb, leb, length, take, drop}
use Rattle.task.specs.File.{task_of}
use Rattle.task.specs.Check
use Rattle.task.specs.Check.{check}
use Rattle.task.specs.Refused.{PREFERENCES, LIMIT}
use Rattle.searching.specs.Limits.{MAX_NODES}
use Rattle.searching.specs.Search
use Rattle.searching.specs.Search.{Node, node_at, explore, plan_to}

-- a plan and its cost, that no plan solves, that a further node had no room, or a refusal with a number and a place
pub data Answer : Type 0 where
  found : List ℕ → ℕ → Answer
  no_plan : Answer
  full : Answer
  refused : ℕ → ℕ → Answer

-- with the nodes kept, in the order found
pub record Searched : Type 0 where
  pub answer : Answer
  pub kept : List Node

-- the plan is read from the origins
abbrev pub answer_by : Search.Outcome → List Node → Answer
answer_by (Search.found i) ns = found (plan_to ns i) (node_at ns i).cost
answer_by Search.no_plan ns = no_plan
answer_by Search.full ns = full

abbrev pub searched : Search.Answer → Searched
searched a = record { answer = answer_by a.outcome a.nodes; kept = a.nodes }

-- no node is kept
abbrev pub refusal : ℕ → ℕ → Searched
refusal n i = record { answer = refused n i; kept = [] }

abbrev pub limit_allowed : ℕ → ℕ → Bool
limit_allowed limit room = (leb 1 limit && leb limit MAX_NODES) && leb limit room

-- the task in b is searched where check has accepted it
abbrev pub search_by : List ℕ → ℕ → ℕ → Check.Answer → Searched
search_by b limit room (Check.refused n i) = refusal n i
search_by b limit room (Check.accepted z) =
    cond (eqb z.preferences 0)
    (cond (limit_allowed limit room) (searched (explore (task_of b) limit)) (refusal LIMIT 0)) (refusal PREFERENCES 0)

unfoldable pub search_file : List ℕ → ℕ → ℕ → Searched
search_file b limit room = search_by b limit room (check b)

-- A lent list after the search: it begins with the nodes kept, each standing for one, and its rest is as it was
pub record Lent {A : Type 0} (node : A → Node) (kept : List Node) (before after : List A) : Type 0 where
  pub begins : map node (take (length kept) after) ≡ kept
  pub rest : drop (length kept) after ≡ drop (length kept) before
