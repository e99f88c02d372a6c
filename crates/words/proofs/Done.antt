-- 0 means done: a call returns 0 exactly where its answer is no refusal, since no refusal of any operation has number 0.
use mathlib.Core.Path.{◌≡◌, refl}
use mathlib.Core.Bool.{Bool, true, false, not, cond, ◌&&◌}
use mathlib.Core.List.{List, [], ◌∷◌, map}
use Prim.Native.Nat.{ℕ, ◌+◌, ◌*◌}
use lib.Dec.{eqb, leb, ltb}
use lib.ListN.{length, get_or}
use mathlib.Core.Option.{Option, none, some}
use Rattle.lists.specs.Lists.{all, any}
use Rattle.task.specs.TaskRows.{Row}
use Rattle.task.specs.File.{Sizes, sizes, rows, task_of}
use Rattle.task.specs.Check
use Rattle.task.specs.Check.{Answer, Context, Progress, accepted, may_end, follow, value_allowed, next_progress, first_progress, check_on, sizes_allowed, check_rows, check}
use Rattle.meaning.specs.Verdict.{verdict}
use Rattle.meaning.specs.Literals.{literals}
use Rattle.plan.specs.Judged.{Judged, steps_known, judged_by, judged}
use Rattle.plan.specs.Walked
use Rattle.plan.specs.Walked.{Walked, given, without_amounts, without_worth, walked}
use Rattle.settling.specs.Settled.{Settled, worth, worth_of, arguments_allowed, settled_by, settled}
use Rattle.figures.specs.Plans.{plans, readable}
use Rattle.figures.specs.Figures.{Figures, none_solves, solve, figures}
use Rattle.figures.specs.Week
use Rattle.figures.specs.Week.{is_long, is_faulty, first_faulty, week_by, week_of}
use Rattle.outcome.specs.Outcome.{Outcome, written, fitted}
use Rattle.classical.specs.Translation.{further, compiled_rows, translated_actions}
use Rattle.translation.specs.Translated.{rows_fitted, small_enough, outcome_by, outcome}
use Rattle.translation.specs.Measured.{measured_by, measured}
use Rattle.losses.specs.Losses.{Lost, lost, stopped, lost_after}
use Rattle.lost.specs.Answered.{Answered, answered_by, answered}
use Rattle.canonical.specs.Canonical.{respelled_rows}
use Rattle.spelling.specs.Outcome.{outcome_by as spelled_by, outcome as spelled}
use Rattle.singling.specs.Singled.{singled_rows}
use Rattle.singling.specs.Wide.{first_wide}
use Rattle.singling.specs.Outcome.{rows_fitted as singled_rows_fitted, outcome_by as singled_by, outcome as singled}
use Rattle.plan_lines.specs.PlanText.{text_of, Read, plan, faulty, read_plan}
use Rattle.plan_text.specs.Outcomes.{plan_fitted, read_by, read_outcome, write_outcome, refused_after, text_walked_by, text_walked}
use Rattle.source.specs.Source.{below, of_known, of_text, outcome_by as sourced_by, outcome as sourced}
use Rattle.pddl_text.specs.Pddl.{domain_text, problem_text}
use Rattle.pddl_text.specs.Outcomes
use Rattle.pddl_text.specs.Outcomes.{outcome_by as texts_by, outcome as texts}
use Rattle.searched.specs.Searched
use Rattle.searched.specs.Searched.{limit_allowed, search_by, search_file}
use Rattle.searching.specs.Search
use Rattle.searching.specs.Search.{explore}
use Rattle.report.specs.Report.{report_on, report_by, report_outcome}
use Rattle.words.specs.Numbers.{Call, call, of_check, of_outcome, of_texts, of_walk, of_settle, of_week, of_losses, of_search}

-- The number that a call returns, and which answers are no refusals

abbrev pub returns_zero : Call → Bool
returns_zero (call n words) = eqb n 0

abbrev pub is_accepted : Answer → Bool
is_accepted (Check.accepted z) = true
is_accepted (Check.refused n i) = false

abbrev pub is_written : Outcome → Bool
is_written (written n) = true
is_written (Outcome.refused n i) = false

abbrev pub are_written : Outcomes.Outcome → Bool
are_written (Outcomes.written d p) = true
are_written (Outcomes.refused n i) = false

abbrev pub is_given : Walked → Bool
is_given (given v looked) = true
is_given (Walked.refused n i) = false

abbrev pub is_worth : Settled → Bool
is_worth (worth metric utility) = true
is_worth (Settled.refused n i) = false

-- figures, though no plan may solve
abbrev pub are_figures : Week.Answer → Bool
are_figures (Week.given x) = true
are_figures (Week.refused n i) = false

abbrev pub is_run : Answered → Bool
is_run (Answered.given v) = true
is_run (Answered.refused n i) = false

abbrev pub is_searched : Searched.Answer → Bool
is_searched (Searched.found p cost) = true
is_searched Searched.no_plan = true
is_searched Searched.full = true
is_searched (Searched.refused n i) = false

-- Check

abbrev CheckDone : Answer → Type 0
CheckDone a = returns_zero (of_check a) ≡ is_accepted a

walk_done : (z : Sizes) (i : ℕ) (xs : List Row) (w : Progress) → CheckDone (check_rows z i xs w)
unfolding check_rows
walk_done z i [] w = go (may_end w.context) (eqb w.actions z.actions && eqb w.preferences z.preferences)
  where
    go : (x y : Bool) → CheckDone (cond x (cond y (accepted z) (Check.refused 6 i)) (Check.refused 4 i))
    go true true = refl
    go true false = refl
    go false y = refl
walk_done z i (x ∷ xs) w = go (follow w.context x.mark) (walk_done z (i + 1) xs)
  where
    allowed : (b : Bool) (a : Answer) → CheckDone a → CheckDone (cond b a (Check.refused 5 i))
    allowed true a e = e
    allowed false a e = refl

    go : (c : Option Context) → ((v : Progress) → CheckDone (check_rows z (i + 1) xs v)) → CheckDone (check_on z i x w (check_rows z (i + 1) xs) c)
    go none rest = refl
    go (some c) rest = allowed (value_allowed z.facts w.floor x) (check_rows z (i + 1) xs (next_progress w c x)) (rest (next_progress w c x))

check_done : (b : List ℕ) → CheckDone (check b)
unfolding check
check_done b =
    go (ltb (length b) 8) (not (sizes_allowed (sizes b))) (not (eqb (length b) (8 + 5 * (sizes b).rows)))
  where
    go : (x y z : Bool)
        → CheckDone (cond x (Check.refused 1 0) (cond y (Check.refused 2 0) (cond z (Check.refused 3 0) (check_rows (sizes b) 0 (rows b) first_progress))))
    go true y z = refl
    go false true z = refl
    go false false true = refl
    go false false false = walk_done (sizes b) 0 (rows b) first_progress

-- Areas

abbrev OutcomeDone : Outcome → Type 0
OutcomeDone o = returns_zero (of_outcome o) ≡ is_written o

fitted_done : (bytes room : ℕ) → OutcomeDone (fitted bytes room)
fitted_done bytes room = go (leb bytes room)
  where
    go : (x : Bool) → OutcomeDone (cond x (written bytes) (Outcome.refused 9 0))
    go true = refl
    go false = refl

-- an outcome, where another test has not refused
outcome_else : (x : Bool) (o : Outcome) (n i : ℕ) → OutcomeDone o → eqb n 0 ≡ false → OutcomeDone (cond x o (Outcome.refused n i))
outcome_else true o n i e h = e
outcome_else false o n i e h = h

translate_done : (b : List ℕ) (room : ℕ) → OutcomeDone (outcome b room)
unfolding outcome
translate_done b room = go (check b) (check_done b)
  where
    go : (a : Answer) → CheckDone a → OutcomeDone (outcome_by b room a)
    go (Check.refused n i) e = e
    go (Check.accepted z) e =
        outcome_else (small_enough z (further (task_of b).preferences)) (rows_fitted (compiled_rows b) room) 7 0
        (outcome_else (leb (compiled_rows b) 12000) (fitted (8 + 5 * compiled_rows b) room) 8 0 (fitted_done (8 + 5 * compiled_rows b) room) refl) refl

spell_done : (b : List ℕ) (room : ℕ) → OutcomeDone (spelled b room)
unfolding spelled
spell_done b room = go (check b) (check_done b)
  where
    go : (a : Answer) → CheckDone a → OutcomeDone (spelled_by b room a)
    go (Check.refused n i) e = e
    go (Check.accepted z) e = fitted_done (8 + 5 * respelled_rows b) room

single_done : (b : List ℕ) (room : ℕ) → OutcomeDone (singled b room)
unfolding singled
single_done b room = go (check b) (check_done b)
  where
    fits : (o : Option ℕ) → OutcomeDone (singled_rows_fitted (singled_rows b) room o)
    fits (some i) = refl
    fits none =
        outcome_else (leb (singled_rows b) 12000) (fitted (8 + 5 * singled_rows b) room) 8 0 (fitted_done (8 + 5 * singled_rows b) room) refl

    go : (a : Answer) → CheckDone a → OutcomeDone (singled_by b room a)
    go (Check.refused n i) e = e
    go (Check.accepted z) e = fits (first_wide 0 (rows b))

plan_done : (steps bytes room : ℕ) → OutcomeDone (plan_fitted steps bytes room)
plan_done steps bytes room = outcome_else (leb steps 2048) (fitted bytes room) 10 0 (fitted_done bytes room) refl

read_done : (t : List ℕ) (room : ℕ) → OutcomeDone (read_outcome t room)
unfolding read_outcome
read_done t room = go (read_plan t)
  where
    go : (r : Read) → OutcomeDone (read_by room r)
    go (plan p) = plan_done (length p) (length p) room
    go (faulty i) = refl

write_done : (p : List ℕ) (room : ℕ) → OutcomeDone (write_outcome p room)
unfolding write_outcome
write_done p room = plan_done (length p) (length (text_of p)) room

texts_done : (b : List ℕ) (domain problem : ℕ) → returns_zero (of_texts (texts b domain problem)) ≡ are_written (texts b domain problem)
unfolding texts
texts_done b domain problem = go (check b) (check_done b)
  where
    areas : (x y : Bool) (d p : ℕ) → let o = cond x (cond y (Outcomes.written d p) (Outcomes.refused 14 0)) (Outcomes.refused 13 0) in returns_zero (of_texts o) ≡ are_written o
    areas true true d p = refl
    areas true false d p = refl
    areas false y d p = refl

    go : (a : Answer) → CheckDone a → returns_zero (of_texts (texts_by b domain problem a)) ≡ are_written (texts_by b domain problem a)
    go (Check.refused n i) e = e
    go (Check.accepted z) e =
        areas (eqb z.preferences 0) (leb (length (domain_text (task_of b))) domain && leb (length (problem_text (task_of b))) problem)
        (length (domain_text (task_of b))) (length (problem_text (task_of b)))

-- Plans

abbrev WalkDone : Walked → Type 0
WalkDone w = returns_zero (of_walk w) ≡ is_given w

verdict_done : (v : Walked.Walk) (looked : ℕ) → WalkDone (given v looked)
verdict_done (Walked.solved cost met) looked = refl
verdict_done (Walked.stopped i) looked = refl
verdict_done Walked.goal_missed looked = refl
verdict_done (Walked.rule_missed i) looked = refl

-- a judged plan, whose refusal has another number than 0
abbrev Numbered : Judged → Type 0
Numbered (Judged.given v) = Unit {0}
Numbered (Judged.refused n i) = eqb n 0 ≡ false

judged_numbered : (b p : List ℕ) → Numbered (judged b p)
unfolding judged
judged_numbered b p = go (check b) (check_done b)
  where
    steps : (x y : Bool) (z : Sizes)
        → Numbered (cond x (cond y (Judged.given (verdict (task_of b) p)) (Judged.refused 11 (steps_known z.actions p))) (Judged.refused 10 0))
    steps true true z = tt
    steps true false z = refl
    steps false y z = refl

    go : (a : Answer) → CheckDone a → Numbered (judged_by b p a)
    go (Check.refused n i) e = e
    go (Check.accepted z) e = steps (leb (length p) 2048) (all (λ (k : ℕ). ltb k z.actions) p) z

walked_done : (b p : List ℕ) → WalkDone (walked b p)
unfolding walked
walked_done b p = go (judged b p) (judged_numbered b p)
  where
    go : (j : Judged) → Numbered j → WalkDone (without_worth (literals (task_of b) p) j)
    go (Judged.given v) e = verdict_done (without_amounts v) (literals (task_of b) p)
    go (Judged.refused n i) e = e

text_done : (b t : List ℕ) → WalkDone (text_walked b t)
unfolding text_walked
text_done b t = go (read_plan t)
  where
    after : (a : Answer) (i : ℕ) → CheckDone a → WalkDone (refused_after a 12 i)
    after (Check.refused n k) i e = e
    after (Check.accepted z) i e = refl

    go : (r : Read) → WalkDone (text_walked_by b r)
    go (plan p) = walked_done b p
    go (faulty i) = after (check b) i (check_done b)

source_done : (b t : List ℕ) (room : ℕ) → OutcomeDone (sourced b t room)
unfolding sourced measured
source_done b t room = go (outcome b 60008) (translate_done b 60008)
  where
    known : (z : Sizes) (p : List ℕ) → OutcomeDone (of_known z room p)
    known z p =
        outcome_else (all (λ (k : ℕ). ltb k (translated_actions z)) p) (fitted (length (below z.actions p)) room) 11 (steps_known (translated_actions z) p)
        (fitted_done (length (below z.actions p)) room) refl

    text : (z : Sizes) (r : Read) → OutcomeDone (of_text z room r)
    text z (plan p) = outcome_else (leb (length p) 2048) (of_known z room p) 10 0 (known z p) refl
    text z (faulty i) = refl

    go : (o : Outcome) → OutcomeDone o → OutcomeDone (sourced_by room (read_plan t) (measured_by b o))
    go (Outcome.refused n i) e = e
    go (written n) e = text (sizes b) (read_plan t)

report_done : (b p : List ℕ) (room : ℕ) → OutcomeDone (report_outcome b p room)
unfolding report_outcome
report_done b p room = go (judged b p) (judged_numbered b p)
  where
    go : (j : Judged) → Numbered j → OutcomeDone (report_by (length (report_on b p)) room j)
    go (Judged.given v) e = fitted_done (length (report_on b p)) room
    go (Judged.refused n i) e = e

settled_done : (b : List ℕ) (cost : ℕ) (met : ℕ → Bool) → returns_zero (of_settle (settled b cost met)) ≡ is_worth (settled b cost met)
unfolding settled
settled_done b cost met = go (check b) (check_done b)
  where
    allowed : (x : Bool) → let s = cond x (worth_of (task_of b) cost met) (Settled.refused 15 0) in returns_zero (of_settle s) ≡ is_worth s
    allowed true = refl
    allowed false = refl

    go : (a : Answer) → CheckDone a → returns_zero (of_settle (settled_by b cost met a)) ≡ is_worth (settled_by b cost met a)
    go (Check.refused n i) e = e
    go (Check.accepted z) e = allowed (arguments_allowed z.preferences cost met)

-- Searching

abbrev SearchDone : Searched.Searched → Type 0
SearchDone x = returns_zero (of_search x) ≡ is_searched x.answer

search_done : (b : List ℕ) (limit room : ℕ) → SearchDone (search_file b limit room)
unfolding search_file
search_done b limit room = go (check b) (check_done b)
  where
    ended : (o : Search.Outcome) → (ns : List Search.Node) → SearchDone (record { answer = Searched.answer_by o ns; kept = ns })
    ended (Search.found i) ns = refl
    ended Search.no_plan ns = refl
    ended Search.full ns = refl

    tests : (x y : Bool) (s : Searched.Searched) → SearchDone s
        → SearchDone (cond x (cond y s (Searched.refusal 16 0)) (Searched.refusal 13 0))
    tests true true s e = e
    tests true false s e = refl
    tests false y s e = refl

    go : (a : Answer) → CheckDone a → SearchDone (search_by b limit room a)
    go (Check.refused n i) e = e
    go (Check.accepted z) e =
        tests (eqb z.preferences 0) (limit_allowed limit room) (Searched.searched (explore (task_of b) limit))
        (ended (explore (task_of b) limit).outcome (explore (task_of b) limit).nodes)

-- Lists of translated actions

abbrev LossesDone : Answered → Type 0
LossesDone a = returns_zero (of_losses a) ≡ is_run a

lost_done : (b p : List ℕ) → LossesDone (answered b p)
unfolding answered measured
lost_done b p = go (outcome b 60008) (translate_done b 60008)
  where
    given_done : (v : Lost) → LossesDone (Answered.given v)
    given_done (lost cost weights) = refl
    given_done (stopped i) = refl

    steps : (x y : Bool) (n : ℕ)
        → LossesDone (cond x (cond y (Answered.given (lost_after (task_of b) p)) (Answered.refused 11 n)) (Answered.refused 10 0))
    steps true true n = given_done (lost_after (task_of b) p)
    steps true false n = refl
    steps false y n = refl

    go : (o : Outcome) → OutcomeDone o → LossesDone (answered_by b p (measured_by b o))
    go (Outcome.refused n i) e = e
    go (written n) e = steps (leb (length p) 2048) (all (λ (k : ℕ). ltb k (translated_actions (sizes b))) p) (steps_known (translated_actions (sizes b)) p)

-- Weeks of plans

abbrev WeekDone : Week.Answer → Type 0
WeekDone x = returns_zero (of_week x) ≡ are_figures x

week_done : (b f : List ℕ) → WeekDone (week_of b f)
unfolding week_of
week_done b f = go (check b) (check_done b)
  where
    over : (x : Figures) → WeekDone (Week.given x)
    over none_solves = refl
    over (solve n a) = refl

    plans_done : (x y long : Bool) (k : ℕ) (figures : Figures)
        → WeekDone (cond x (cond y (Week.refused (cond long 10 11) k) (Week.given figures)) (Week.refused 18 0))
    plans_done true true true k figures = refl
    plans_done true true false k figures = refl
    plans_done true false long k figures = over figures
    plans_done false y long k figures = refl

    go : (a : Answer) → CheckDone a → WeekDone (week_by b f a)
    go (Check.refused n i) e = e
    go (Check.accepted z) e =
        plans_done (readable f) (any (is_faulty z.actions) (plans f)) (is_long (get_or (plans f) (first_faulty z.actions (plans f)) []))
        (first_faulty z.actions (plans f)) (figures z.preferences (map (verdict (task_of b)) (plans f)))

-- Every operation: on the file b, the plan p, the text t, the file f of plans, a cost and met preferences, with areas of so many bytes

pub record ZeroMeansDone (b p t f : List ℕ) (cost : ℕ) (met : ℕ → Bool) (room more : ℕ) : Type 0 where
  pub checking : returns_zero (of_check (check b)) ≡ is_accepted (check b)
  pub translating : returns_zero (of_outcome (outcome b room)) ≡ is_written (outcome b room)
  pub spelling : returns_zero (of_outcome (spelled b room)) ≡ is_written (spelled b room)
  pub singling : returns_zero (of_outcome (singled b room)) ≡ is_written (singled b room)
  pub walking : returns_zero (of_walk (walked b p)) ≡ is_given (walked b p)
  pub settling : returns_zero (of_settle (settled b cost met)) ≡ is_worth (settled b cost met)
  pub reading : returns_zero (of_outcome (read_outcome t room)) ≡ is_written (read_outcome t room)
  pub writing : returns_zero (of_outcome (write_outcome p room)) ≡ is_written (write_outcome p room)
  pub walking_text : returns_zero (of_walk (text_walked b t)) ≡ is_given (text_walked b t)
  pub sourcing : returns_zero (of_outcome (sourced b t room)) ≡ is_written (sourced b t room)
  pub writing_pddl : returns_zero (of_texts (texts b room more)) ≡ are_written (texts b room more)
  pub reckoning : returns_zero (of_week (week_of b f)) ≡ are_figures (week_of b f)
  pub searching : returns_zero (of_search (search_file b more room)) ≡ is_searched (search_file b more room).answer
  pub reporting : returns_zero (of_outcome (report_outcome b p room)) ≡ is_written (report_outcome b p room)
  pub losing : returns_zero (of_losses (answered b p)) ≡ is_run (answered b p)

pub zero_means_done : (b p t f : List ℕ) (cost : ℕ) (met : ℕ → Bool) (room more : ℕ) → ZeroMeansDone b p t f cost met room more
zero_means_done b p t f cost met room more =
    record {
      checking = check_done b;
      translating = translate_done b room;
      spelling = spell_done b room;
      singling = single_done b room;
      walking = walked_done b p;
      settling = settled_done b cost met;
      reading = read_done t room;
      writing = write_done p room;
      walking_text = text_done b t;
      sourcing = source_done b t room;
      writing_pddl = texts_done b room more;
      reckoning = week_done b f;
      searching = search_done b more room;
      reporting = report_done b p room;
      losing = lost_done b p;
    }
