-- The rows that spell a task.
use Rattle.std.specs.Prelude.{Bool, cond, List, [], ◌∷◌, ◌++◌, map, ℕ, ◌+◌}
use Rattle.lists.specs.Lists.{singleton, concat_map}
use Rattle.task.specs.Marks.{ACTION, EFFECT, CLAUSE, HOLDS, LACKS, ADD, DELETE, GOAL, START}
use Rattle.task.specs.Marks.{ALWAYS, SOMETIME, AT_END, AT_MOST_ONCE, SOMETIME_BEFORE, SOMETIME_AFTER, SECOND, WITHIN, ALWAYS_WITHIN, STEPS, HARD}
use Rattle.meaning.specs.Task.{Kind, always, sometime, at_end, at_most_once, sometime_before, sometime_after, within, always_within, two_sided}
use Rattle.meaning.specs.Task.{Literal, Clause, Condition, Effect, Action, Preference, Task}

-- Document 01's row: a mark and a value

pub record Row : Type 0 where
  pub mark : ℕ
  pub value : ℕ

abbrev pub row : ℕ → ℕ → Row
row m v = record { mark = m; value = v }

-- Rows as they spell a task

abbrev pub literal_row : Literal → Row
literal_row l = row (cond l.holds HOLDS LACKS) l.fact

abbrev pub clause_rows : Clause → List Row
clause_rows c = row CLAUSE 0 ∷ map literal_row c

abbrev pub condition_rows : Condition → List Row
condition_rows = concat_map clause_rows

abbrev pub effect_rows : Effect → List Row
effect_rows e = row EFFECT 0 ∷ condition_rows e.condition ++ map (row ADD) e.adds ++ map (row DELETE) e.deletes

abbrev pub action_rows : Action → List Row
action_rows a = row ACTION a.cost ∷ condition_rows a.precondition ++ concat_map effect_rows a.effects

abbrev pub kind_mark : Kind → ℕ
kind_mark always = ALWAYS
kind_mark sometime = SOMETIME
kind_mark at_end = AT_END
kind_mark at_most_once = AT_MOST_ONCE
kind_mark sometime_before = SOMETIME_BEFORE
kind_mark sometime_after = SOMETIME_AFTER
kind_mark (within t) = WITHIN
kind_mark (always_within t) = ALWAYS_WITHIN

-- the mark that opens a preference, hard or soft
abbrev pub opening_mark : Bool → Kind → ℕ
opening_mark hard k = cond hard (kind_mark k + HARD) (kind_mark k)

-- the steps of a kind that has them
abbrev pub steps_rows : Kind → List Row
steps_rows always = []
steps_rows sometime = []
steps_rows at_end = []
steps_rows at_most_once = []
steps_rows sometime_before = []
steps_rows sometime_after = []
steps_rows (within t) = singleton (row STEPS t)
steps_rows (always_within t) = singleton (row STEPS t)

abbrev pub preference_rows : Preference → List Row
preference_rows p =
    row (opening_mark p.hard p.kind) p.weight
    ∷ steps_rows p.kind
    ++ (condition_rows p.first ++ cond (two_sided p.kind) (row SECOND 0 ∷ condition_rows p.second) [])

abbrev pub task_rows : Task → List Row
task_rows t =
    map (row START) t.start
    ++ (row GOAL 0 ∷ condition_rows t.goal)
    ++ concat_map action_rows t.actions
    ++ concat_map preference_rows t.preferences
