-- The rows of the translated task, from the rows that spell its source.
use mathlib.Core.Path.{◌≡◌, refl, sym, ap, ◌∙◌}
use mathlib.Core.List.{List, [], ◌∷◌, ◌++◌, map, append_assoc, append-nil, map-append}
use Prim.Native.Nat.{ℕ, ◌+◌, ◌*◌}
use native.Mathlib.Omega.{arith}
use lib.Dec.{T}
use lib.ListN.{length, drop}
use Rattle.lists.specs.Lists.{all, singleton, concat_map}
use Rattle.task.specs.Marks.{ACTION, CLAUSE, LACKS, HOLDS, DELETE, GOAL, START}
use Rattle.meaning.specs.Task.{Condition, Action, Preference, Task}
use Rattle.task.specs.TaskRows.{Row, row, condition_rows, effect_rows, action_rows, preference_rows, task_rows}
use Rattle.task.specs.File.{paired}
use Rattle.task.specs.Spelling.{kind_spellable, preference_spellable, spellable}
use Rattle.lists.proofs.Tests.{tests, all_both, all_map, all-concat, all_implies}
use Rattle.task.proofs.Passing.{condition_passes, effects_pass}
use Rattle.task.proofs.RoundTrip.{from_goal, task_grouped}
use Rattle.task.proofs.Reading.{passes}
use Rattle.task.proofs.Positions.{drop_after, tail_rows, tail_stops, preferences_stop, past_kinds}
use Rattle.classical.specs.Translation.{holds_fact, alone, normal, ended, source_action, end_action, closings, all_closed, translated}
use Rattle.writer.specs.Writer.{Wrote}
use Rattle.writer.specs.declared.Cursor.{Cursor}
use Rattle.task.specs.Rows.{between, Stops}
use Rattle.layout.specs.Sides.{stretch, end_at, starts_from}
use Rattle.effects.specs.Effects.{single_rows}
use Rattle.translated_rows.specs.Parts.{read_task, Source, Found, Placed, all_actions, preferences_to, opening_rows, opening_at, closed_rows}
use Rattle.translated_rows.specs.Parts.{translated_rows}
use Rattle.translated_rows.specs.declared.places.Places.{Places}
use Rattle.writer.proofs.Putting.{then, as_rows}
use Rattle.layout.proofs.Ends.{end_after, part_is, condition_between}
use Rattle.lists.proofs.Tests.{concat-append}
use Rattle.effects.proofs.EffectRows.{rows_append}
use Rattle.translated_rows.proofs.PartRows.{closed_is}

-- Where the parts of a task stand

pub record Sections (ms vs : List ℕ) (t : Task) (goal from at : ℕ) : Type 0 where
  pub opening : stretch ms vs 0 goal ≡ map (row START) t.start
  pub clauses : stretch ms vs goal from ≡ row GOAL 0 ∷ condition_rows t.goal
  pub acts : drop from (paired ms vs) ≡ tail_rows t.actions t.preferences
  pub prefs : drop at (paired ms vs) ≡ concat_map preference_rows t.preferences

module _ (ms vs : List ℕ) (t : Task) (spelled : paired ms vs ≡ task_rows t) (goal mid from at : ℕ)
    (goal_at : goal ≡ end_at START START ms 0) (mid_at : mid ≡ end_at GOAL GOAL ms goal) (from_at : from ≡ end_at CLAUSE LACKS ms mid)
    (at_at : at ≡ end_at ACTION DELETE ms from) where
  abbrev starts : List Row
  starts = map (row START) t.start

  abbrev goals : List Row
  goals = condition_rows t.goal

  abbrev acting : List Row
  acting = concat_map action_rows t.actions

  abbrev preferring : List Row
  preferring = concat_map preference_rows t.preferences

  goal_stops : (c : Condition) → Stops (between GOAL GOAL) (condition_rows c ++ (acting ++ preferring))
  goal_stops [] = tail_stops (between GOAL GOAL) (past_kinds (between GOAL GOAL) tt) refl t.actions t.preferences
  goal_stops (k ∷ c) = refl

  action_between : (a : Action) → T (all (passes (between ACTION DELETE)) (action_rows a))
  action_between a =
      all_both (passes (between ACTION DELETE)) (condition_rows a.precondition) (concat_map effect_rows a.effects)
      (condition_passes (passes (between ACTION DELETE)) (λ v. tt) (λ v. tt) (λ v. tt) a.precondition)
      (effects_pass (passes (between ACTION DELETE)) (λ v. tt) (λ v. tt) (λ v. tt) (λ v. tt) (λ v. tt) (λ v. tt) a.effects)

  at_starts : drop 0 (paired ms vs) ≡ starts ++ from_goal t
  at_starts = spelled ∙ task_grouped t

  goal_is : goal ≡ 0 + length starts
  goal_is =
      goal_at ∙ end_after START START ms 0 vs starts (from_goal t) at_starts (all_map (passes (between START START)) (row START) (λ v. tt) t.start) refl

  at_goal : drop goal (paired ms vs) ≡ (row GOAL 0 ∷ []) ++ (goals ++ (acting ++ preferring))
  at_goal = ap (λ (k : ℕ). drop k (paired ms vs)) goal_is ∙ drop_after 0 (paired ms vs) starts (from_goal t) at_starts

  mid_is : mid ≡ goal + 1
  mid_is = mid_at ∙ end_after GOAL GOAL ms goal vs (row GOAL 0 ∷ []) (goals ++ (acting ++ preferring)) at_goal tt (goal_stops t.goal)

  at_mid : drop mid (paired ms vs) ≡ goals ++ (acting ++ preferring)
  at_mid =
      ap (λ (k : ℕ). drop k (paired ms vs)) mid_is ∙ drop_after goal (paired ms vs) (row GOAL 0 ∷ []) (goals ++ (acting ++ preferring)) at_goal

  from_is : from ≡ mid + length goals
  from_is =
      from_at
      ∙ end_after CLAUSE LACKS ms mid vs goals (acting ++ preferring) at_mid (condition_between t.goal)
      (tail_stops (between CLAUSE LACKS) (past_kinds (between CLAUSE LACKS) tt) refl t.actions t.preferences)

  at_from : drop from (paired ms vs) ≡ acting ++ preferring
  at_from = ap (λ (k : ℕ). drop k (paired ms vs)) from_is ∙ drop_after mid (paired ms vs) goals (acting ++ preferring) at_mid

  at_is : at ≡ from + length acting
  at_is =
      at_at
      ∙ end_after ACTION DELETE ms from vs acting preferring at_from
      (all-concat (passes (between ACTION DELETE)) action_rows action_between t.actions)
      (preferences_stop (between ACTION DELETE) (past_kinds (between ACTION DELETE) tt) t.preferences)

  sections : Sections ms vs t goal from at
  sections = record {
    opening = part_is ms vs 0 goal starts (from_goal t) at_starts goal_is;
    clauses = part_is ms vs goal from (row GOAL 0 ∷ goals) (acting ++ preferring) at_goal (omega (arith, mid_is, from_is));
    acts = at_from;
    prefs = ap (λ (k : ℕ). drop k (paired ms vs)) at_is ∙ drop_after from (paired ms vs) acting preferring at_from;
  }

-- The rows of the whole

regroup : (a s g e c m d z : List Row)
    → a ++ (s ++ (g ++ (e ++ c))) ++ (m ++ (d ++ z)) ≡ a ++ s ++ (g ++ e ++ c) ++ (m ++ (d ++ []) ++ z) ++ []
regroup a s g e c m d z = simp (append_assoc, append-nil)

module _ (t : Task) where
  abbrev F : ℕ
  F = t.facts

  abbrev ps : List Preference
  ps = t.preferences

  abbrev P : ℕ
  P = length t.preferences

  task_is : opening_rows F (normal F P) P (map (row START) t.start) (row GOAL 0 ∷ condition_rows t.goal)
      ++ (concat_map action_rows (map (source_action F ps) t.actions) ++ (action_rows (end_action F ps) ++ concat_map action_rows (closings F P 0 ps)))
      ≡ task_rows (translated t)
  unfolding translated
  task_is =
      let starts : List Row = map (row START) t.start in
      let end_goal : Condition = alone (singleton (holds_fact (ended F P))) in
      let M : List Action = map (source_action F ps) t.actions in
      let Z : List Action = closings F P 0 ps in
      let single : List Row = single_rows HOLDS (ended F P) in
      regroup starts (row START (normal F P) ∷ []) (row GOAL 0 ∷ condition_rows t.goal) single (closed_rows F 0 P)
      (concat_map action_rows M) (action_rows (end_action F ps)) (concat_map action_rows Z)
      ∙ (λ i. sym (map-append (row START) t.start (singleton (normal F P))) i
      ++ (row GOAL 0 ∷ (ap (λ (xs : List Row). condition_rows t.goal ++ single ++ xs) (closed_is F 0 ps)
      ∙ ap (λ (xs : List Row). xs ++ condition_rows (all_closed F 0 ps)) (sym (rows_append t.goal end_goal))
      ∙ sym (rows_append (t.goal ++ end_goal) (all_closed F 0 ps))) i)
      ++ (ap (λ (xs : List Row). xs ++ concat_map action_rows Z) (sym (concat-append action_rows M (singleton (end_action F ps))))
      ∙ sym (concat-append action_rows (M ++ singleton (end_action F ps)) Z)) i
      ++ [])

-- the steps of each preference are few
timed : (t : Task) → T (spellable t) → T (all (λ (q : Preference). kind_spellable q.kind) t.preferences)
timed t s = all_implies preference_spellable (λ (q : Preference). kind_spellable q.kind) (λ q p. search tests) t.preferences (search tests)

-- the sections of a task that the rows spell
pub found : (ms vs : List ℕ) (t : Task) → paired ms vs ≡ task_rows t → (p : Places) → Found ms p → Sections ms vs t p.goal p.from p.to
found ms vs t spelled p f =
    sections ms vs t spelled p.goal (end_at GOAL GOAL ms p.goal) p.from p.to f.goal_at refl f.from_at f.to_at

-- the source, with its sections found and its preferences noted
module _ (ms vs : List ℕ) (F P : ℕ) (p : Places) (source : Source ms vs F P) (f : Found ms p) where
  abbrev task : Task
  task = read_task F ms vs

  abbrev from : ℕ
  from = p.from

  abbrev to : ℕ
  to = p.to

  parts : Sections ms vs task p.goal from to
  parts = found ms vs task source.spelled p f

  pub placed : (starts : List ℕ) → starts ≡ starts_from ms to P → length starts ≡ P → Placed ms vs F (record { from = from; to = to }) starts (F + 3 * P)
  placed starts begun many =
      record {
        acts = parts.acts;
        prefs = parts.prefs;
        inside = f.inside;
        begun = begun ∙ ap (starts_from ms to) source.many;
        many = many ∙ source.many;
        timed = timed task source.spelling;
        normal_is = ap (λ (m : ℕ). F + 3 * m) source.many;
        some_facts = source.some_facts;
        noted = record { few_starts = omega (arith, many, source.few_preferences); few_facts = omega (arith, source.few_facts) };
        few_normal = omega (arith, source.few_facts);
      }

  -- its parts written one after the other
  pub task_wrote : {b o₁ o₂ : List ℕ} {c k r : Cursor} → Wrote b c (opening_at ms vs p.goal from F (F + 3 * P)) k o₁ → Wrote o₁ k (all_actions ms vs F) r o₂
      → Wrote b c (translated_rows ms vs F) r o₂
  task_wrote opened acted =
      let all : preferences_to F (F + 3 * P + 1) ≡ P = omega arith in
      as_rows ((λ z. opening_rows F (F + 3 * P) (all z) (parts.opening z) (parts.clauses z) ++ all_actions ms vs F)
      ∙ (λ z. opening_rows F (F + 3 * source.many z) (source.many z) (map (row START) task.start) (row GOAL 0 ∷ condition_rows task.goal) ++ all_actions ms vs F)
      ∙ task_is task)
      (then opened acted)
