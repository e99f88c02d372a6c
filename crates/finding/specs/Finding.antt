-- What the answers of `find` stand for, and what the areas then hold.
use Rattle.std.specs.Prelude.{◌≡◌, List, [], ◌++◌, ℕ, ◌≤◌, T, length, take, drop, Result, Ok, Err}
use Rattle.meaning.specs.Task.{Task, well_formed}
use Rattle.task.specs.Answers.{number_of, cause_of}
use Rattle.task.specs.declared.Refusal.{Refusal}
use Rattle.searching.specs.Limits.{MAX_NODES, MAX_FOUND, NodeLimit}
use Rattle.searching.specs.Search.{explore}
use Rattle.searched.specs.Searched.{Answer, Searched, found, no_plan, full, refused, refusal}
use Rattle.node_words.specs.Words.{LIST_WORDS, nodes_of}
use Rattle.exploring.specs.Exploring.{as_answer}
use Rattle.exploring.specs.declared.Ended.{Ended}
use Rattle.finding.specs.declared.Sought.{Sought}
use Rattle.finding.specs.declared.Sought.TheVariants.{Found, NoPlan, Full}

-- the plan stands in an area, and the nodes in words
abbrev pub as_searched : List ℕ → List ℕ → Result Sought Refusal → Searched
as_searched plan words (Ok (Found r n)) = record { answer = found (take r.steps plan) r.cost; kept = nodes_of words n }
as_searched plan words (Ok (NoPlan n)) = record { answer = no_plan; kept = nodes_of words n }
as_searched plan words (Ok (Full n)) = record { answer = full; kept = nodes_of words n }
as_searched plan words (Err r) = refusal (number_of r.cause) r.place

-- the answer of a search that keeps so many nodes, and of a whole search
abbrev pub sought_by : Answer → ℕ → Result Sought Refusal
sought_by (found p c) n = Ok (Found (record { steps = length p; cost = c }) n)
sought_by no_plan n = Ok (NoPlan n)
sought_by full n = Ok (Full n)
sought_by (refused k i) n = Err (record { cause = cause_of k; place = i })

abbrev pub as_sought : Searched → Result Sought Refusal
as_sought x = sought_by x.answer (length x.kept)

-- an area for the plan, after the search: its rest is as it was
abbrev pub plan_after : Answer → List ℕ → List ℕ
plan_after (found p c) area = p ++ drop (length p) area
plan_after no_plan area = area
plan_after full area = area
plan_after (refused n i) area = area

-- steps and nodes that have room
abbrev pub Bounded : Result Sought Refusal → Type 0
Bounded (Ok (Found r n)) = (r.steps ≤ MAX_FOUND) × (n ≤ MAX_NODES)
Bounded (Ok (NoPlan n)) = n ≤ MAX_NODES
Bounded (Ok (Full n)) = n ≤ MAX_NODES
Bounded (Err r) = Unit {0}

-- a refusal leaves the words as they were
abbrev pub Kept : Result Sought Refusal → List ℕ → List ℕ → Type 0
Kept (Ok s) before after = Unit {0}
Kept (Err r) before after = after ≡ before

-- e is how the search of t ended, which has no preferences
pub record Ending (words : List ℕ) (e : Ended) (t : Task) (limit : ℕ) : Type 0 where
  pub long : length words ≡ LIST_WORDS
  pub allowed : NodeLimit limit
  pub formed : T (well_formed t)
  pub plain : t.preferences ≡ []
  pub answers : as_answer words e ≡ explore t limit
