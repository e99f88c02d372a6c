-- Wrong translators, each the right one with a part replaced: what document 01 says a reviewer will try, and its mistakes that
-- would pass a quick test, three more about deadlines and two about hard rules.
use mathlib.Core.Path.{◌≡◌, refl}
use mathlib.Core.Bool.{Bool, true, false, cond}
use mathlib.Core.List.{List, [], ◌∷◌, ◌++◌, map}
use Prim.Native.Nat.{ℕ, ◌+◌, ◌-◌, ◌*◌}
use lib.Dec.{eqb}
use lib.ListN.{length}
use Rattle.lists.specs.Lists.{singleton, concat_map, concat_from, sum}
use Rattle.task.specs.Marks.{ALWAYS, AT_MOST_ONCE, SOMETIME_BEFORE, WITHIN, ALWAYS_WITHIN}
use Rattle.meaning.specs.Task.{Kind, within, always_within, Clause, Condition, Effect, Action, Preference, Task}
use Rattle.task.specs.TaskRows.{kind_mark, steps_rows}
use Rattle.task.specs.File.{values}
use Rattle.meaning.specs.Meaning.{is_true, opening, preference_at}
use Rattle.classical.specs.Translation.{holds_fact, lacks_fact, deny, alone, effect, fact_s, fact_b, normal, ended, further, before_d}
use Rattle.classical.specs.Translation.{each_false, trackers_of, met_clause, all_trackers, closing, collect, all_closed, translated}
use Rattle.classical.proofs.Before.{before}

abbrev pub Translator : Type 0
Translator = Task → Task

-- The right parts

-- the facts held at the opening
abbrev pub opens : Task → List ℕ
opens t = t.start ++ singleton (normal t.facts (length t.preferences))

-- the trackers of a source action
abbrev pub in_source : Task → Action → List Effect
in_source t a = all_trackers false t.facts t.preferences

-- the trackers of end
abbrev pub in_end : Task → List Effect
in_end t = all_trackers true t.facts t.preferences

-- what end adds
abbrev pub ends : Task → List ℕ
ends t = singleton (ended t.facts (length t.preferences))

-- what forgo k asks for, beside its turn: that the preference is missed, and of a hard one what can't be
abbrev pub missed : Task → ℕ → Preference → Condition
missed t k p = alone (map deny (met_clause (fact_s t.facts k) (fact_b t.facts k) p.kind))

abbrev pub barred : Task → Preference → Condition
barred t p = cond p.hard (alone (singleton (lacks_fact (ended t.facts (length t.preferences))))) []

abbrev pub forgone : Task → ℕ → Preference → Condition
forgone t k p = missed t k p ++ barred t p

-- A translator by its parts, in this order

abbrev pub translated_by : (Task → List ℕ) → (Task → Action → List Effect) → (Task → List Effect) → (Task → List ℕ)
    → (Task → ℕ → Preference → Condition) → Translator
translated_by opened source_trackers end_trackers end_adds forgo t =
    let F : ℕ = t.facts in
    let P : ℕ = length t.preferences in
    let running : Condition = alone (singleton (holds_fact (normal F P))) in
    let source : Action → Action =
    λ (a : Action). record { cost = a.cost; precondition = a.precondition ++ running; effects = a.effects ++ source_trackers t a } in
    let end : Action =
    record { cost = 0; precondition = running; effects = effect [] (end_adds t) (singleton (normal F P)) ∷ end_trackers t } in
    let close : ℕ → Preference → List Action =
    λ (k : ℕ) (p : Preference). collect F P k p ∷ closing F P k p.weight (forgo t k p) ∷ [] in
    record {
      facts = F + 3 * P + 2 + further t.preferences;
      start = opened t;
      goal = t.goal ++ alone (singleton (holds_fact (ended F P))) ++ all_closed F 0 t.preferences;
      actions = map source t.actions ++ singleton end ++ concat_from close 0 t.preferences;
      preferences = [];
    }

pub right : (t : Task) → translated_by opens in_source in_end ends forgone t ≡ translated t
unfolding translated
right t = refl

-- The same by the trackers of one preference, as trackers_of has them: kind, whether they stand in end, S, B, the fact before D1, φ, ψ

abbrev pub Trackers : Type 0
Trackers = Kind → Bool → ℕ → ℕ → ℕ → Condition → Condition → List Effect

abbrev pub trackers_by : Trackers → Bool → Task → List Effect
trackers_by f last t =
    let F : ℕ = t.facts in
    let of : ℕ → Preference → List Effect =
    λ (k : ℕ) (p : Preference). f p.kind last (fact_s F k) (fact_b F k) (before_d F t.preferences k) p.first p.second in
    concat_from of 0 t.preferences

abbrev pub by_trackers : Trackers → Translator
by_trackers f = translated_by opens (λ (t : Task) (a : Action). trackers_by f false t) (trackers_by f true) ends forgone

pub right_trackers : (t : Task) → by_trackers trackers_of t ≡ translated t
unfolding translated
right_trackers t = refl

-- f for the kind of one mark
abbrev pub instead : ℕ → Trackers → Trackers
instead m f k = cond (eqb (kind_mark k) m) (f k) (trackers_of k)

-- The right translation of other preferences: f of each

abbrev pub translated_as : (Preference → Preference) → Translator
translated_as f t =
    translated
    (record { facts = t.facts; start = t.start; goal = t.goal; actions = t.actions; preferences = map f t.preferences })

-- What a reviewer will try

-- one fixed task that nothing solves: its goal is a fact that no action adds
abbrev pub fixed : Translator
fixed t = record { facts = 1; start = []; goal = alone (singleton (holds_fact 0)); actions = []; preferences = [] }

-- end does not add ended
abbrev pub never_ends : Translator
never_ends = translated_by opens in_source in_end (λ (t : Task). []) forgone

-- what the trackers add in the opening state is held from the start; no action has trackers
abbrev pub opening_only : Translator
opening_only =
    translated_by
    (λ (t : Task). opens t ++ concat_map (λ (e : Effect). cond (is_true (opening t) e.condition) e.adds []) (in_end t))
    (λ (t : Task) (a : Action). []) (λ (t : Task). []) ends forgone

-- each preference is followed as preference 0, at its own weight, and hard if it is
abbrev pub follows_first : Translator
follows_first t =
    let q : Preference = preference_at t 0 in
    translated_as (λ (p : Preference). record { kind = q.kind; hard = p.hard; weight = p.weight; first = q.first; second = q.second }) t

-- Mistakes that would pass a quick test

-- source actions have no trackers
abbrev pub last_only : Translator
last_only = translated_by opens (λ (t : Task) (a : Action). []) in_end ends forgone

-- end has no trackers
abbrev pub all_but_last : Translator
all_but_last = translated_by opens in_source (λ (t : Task). []) ends forgone

-- the trackers of a source action read the state that it reaches, where its effects have no conditions (said_before)
abbrev pub reads_reached : Translator
reads_reached =
    translated_by opens
    (λ (t : Task) (a : Action). map (λ (e : Effect). effect (before a e.condition) e.adds e.deletes) (in_source t a))
    in_end ends forgone

-- at-most-once counts states: a first φ adds S, a second one turns it into B
abbrev pub counts_states : Translator
counts_states =
    by_trackers
    (instead AT_MOST_ONCE
    (λ k last S B E φ ψ.
    effect (alone (lacks_fact S ∷ lacks_fact B ∷ []) ++ φ) (singleton S) []
    ∷ effect (alone (singleton (holds_fact S)) ++ φ) (singleton B) (singleton S)
    ∷ []))

-- forgo does not ask that the preference is missed
abbrev pub forgo_met : Translator
forgo_met = translated_by opens in_source in_end ends (λ (t : Task) (k : ℕ) (p : Preference). barred t p)

-- sometime-before: φ adds B only where ψ fails in the same state, too
abbrev pub own_state : Translator
own_state =
    by_trackers
    (instead SOMETIME_BEFORE
    (λ k last S B E φ ψ. effect ψ (singleton S) [] ∷ each_false (alone (singleton (lacks_fact S)) ++ φ) ψ (singleton B)))

-- always: one effect denies all literals of φ
abbrev pub denied_at_once : Translator
denied_at_once =
    by_trackers
    (instead ALWAYS (λ k last S B E φ ψ. singleton (effect (concat_map (λ (c : Clause). alone (map deny c)) φ) (singleton B) [])))

-- Deadlines

abbrev pub steps : Kind → ℕ
steps k = sum (values (steps_rows k))

-- a preference of another kind
abbrev pub of_kind : Kind → Preference → Preference
of_kind k p = record { kind = k; hard = p.hard; weight = p.weight; first = p.first; second = p.second }

-- within t is followed as within t − 1
abbrev pub one_step_less : Translator
one_step_less =
    translated_as (λ (p : Preference). cond (eqb (kind_mark p.kind) WITHIN) (of_kind (within (steps p.kind - 1)) p) p)

-- always-within t is followed as always-within t + 1
abbrev pub one_step_more : Translator
one_step_more =
    translated_as (λ (p : Preference). cond (eqb (kind_mark p.kind) ALWAYS_WITHIN) (of_kind (always_within (steps p.kind + 1)) p) p)

-- always-within: ψ deletes B, also where it comes too late
abbrev pub late_forgiven : Translator
late_forgiven =
    by_trackers (instead ALWAYS_WITHIN (λ k last S B E φ ψ. trackers_of k last S B E φ ψ ++ singleton (effect ψ [] (singleton B))))

-- Hard rules

-- forgo of a hard preference lacks normal instead of ended: it still applies
abbrev pub forgo_hard : Translator
forgo_hard =
    translated_by opens in_source in_end ends
    (λ (t : Task) (k : ℕ) (p : Preference).
    missed t k p ++ cond p.hard (alone (singleton (lacks_fact (normal t.facts (length t.preferences))))) [])

-- a hard preference is followed as a soft one: its miss costs its weight, which is 0
abbrev pub softened : Translator
softened =
    translated_as (λ (p : Preference). record { kind = p.kind; hard = false; weight = p.weight; first = p.first; second = p.second })
