-- Request 10's one spelling of a task: in each clause the literals rise by fact, HOLDS before LACKS, repeats dropped; likewise ADD rows
-- and DELETE rows. Clauses and everything else keep their order. F is the task's number of facts.
use Rattle.std.specs.Prelude.{Bool, true, false, ◌&&◌, List, [], ◌∷◌, map, ℕ, eqb, length}
use Rattle.std.specs.Bool.{beq}
use Rattle.lists.specs.Lists.{any, filter, concat_map, range}
use Rattle.meaning.specs.Task.{Literal, Clause, Condition, Effect, Action, Preference, Task}
use Rattle.task.specs.TaskRows.{task_rows}
use Rattle.task.specs.File.{file_of, task_of}

-- those of a list in order that are in xs, by a test of sameness
abbrev pub in_order : {A : Type 0} → (A → A → Bool) → List A → List A → List A
in_order {A} same order xs = filter (λ (x : A). any (same x) xs) order

-- Literals

abbrev pub literal : Bool → ℕ → Literal
literal b n = record { holds = b; fact = n }

abbrev pub same_literal : Literal → Literal → Bool
same_literal l m = beq l.holds m.holds && eqb l.fact m.fact

abbrev pub both_literals : ℕ → List Literal
both_literals n = literal true n ∷ literal false n ∷ []

-- every literal on a fact below F: by rising fact, HOLDS before LACKS
abbrev pub literals : ℕ → List Literal
literals F = concat_map both_literals (range 0 F)

-- The parts of a task

abbrev pub canonical_clause : ℕ → Clause → Clause
canonical_clause F = in_order same_literal (literals F)

abbrev pub canonical_facts : ℕ → List ℕ → List ℕ
canonical_facts F = in_order eqb (range 0 F)

abbrev pub canonical_condition : ℕ → Condition → Condition
canonical_condition F = map (canonical_clause F)

abbrev pub canonical_effect : ℕ → Effect → Effect
canonical_effect F e =
    record {
      condition = canonical_condition F e.condition;
      adds = canonical_facts F e.adds;
      deletes = canonical_facts F e.deletes;
    }

abbrev pub canonical_action : ℕ → Action → Action
canonical_action F a =
    record {
      cost = a.cost;
      precondition = canonical_condition F a.precondition;
      effects = map (canonical_effect F) a.effects;
    }

abbrev pub canonical_preference : ℕ → Preference → Preference
canonical_preference F q =
    record {
      kind = q.kind;
      hard = q.hard;
      weight = q.weight;
      first = canonical_condition F q.first;
      second = canonical_condition F q.second;
    }

-- START rows rise already
unfoldable pub canonical : Task → Task
canonical t =
    record {
      facts = t.facts;
      start = t.start;
      goal = canonical_condition t.facts t.goal;
      actions = map (canonical_action t.facts) t.actions;
      preferences = map (canonical_preference t.facts) t.preferences;
    }

-- Its file

-- the one spelling of the task in b
abbrev pub respelled : List ℕ → List ℕ
respelled b = file_of (canonical (task_of b))

abbrev pub respelled_rows : List ℕ → ℕ
respelled_rows b = length (task_rows (canonical (task_of b)))
