-- The rows of a task as pieces: effects, and the rows between them.
use mathlib.Core.Path.{◌≡◌, refl, sym, ap, ap₂, ◌∙◌, subst, subst⁻¹}
use mathlib.Core.Bool.{Bool, true, false}
use mathlib.Core.List.{List, [], ◌∷◌, ◌++◌, map, append_assoc, append-nil}
use lib.Dec.{T}
use Rattle.layout.proofs.ActionRows.{opened}
use Rattle.lists.specs.Lists.{all, concat_map}
use Rattle.task.specs.Marks.{ACTION, EFFECT, CLAUSE, DELETE, GOAL, START}
use Rattle.meaning.specs.Task.{Effect, Action, Preference, Task}
use Rattle.task.specs.TaskRows.{Row, row, condition_rows, effect_rows, action_rows, preference_rows, task_rows}
use Rattle.task.specs.File.{has_mark}
use Rattle.task.specs.Rows.{between, Stops}
use Rattle.lists.proofs.Tests.{tests, without, as_false, all_both, all_map, concat-append}
use Rattle.task.proofs.Positions.{past_kinds}
use Rattle.singling.specs.Singled.{singled_effect, singled_action, singled}
use Rattle.singling.specs.Wide.{is_narrow, all_narrow}
use Rattle.singling.proofs.Lists.{concat-map, all_mapped, all_joined}
use Rattle.singling.proofs.Wide.{no_effect, condition_effectless, preferences_effectless}

pub data Piece : Type 0 where
  plain : Row → Piece
  effect : Effect → Piece

-- an effect stands for the rows f e
abbrev pub rows_by : (Effect → List Row) → Piece → List Row
rows_by f (plain x) = x ∷ []
rows_by f (effect e) = f e

abbrev pub rows_of : List Piece → List Row
rows_of = concat_map (rows_by effect_rows)

abbrev pub new_effects : Effect → List Row
new_effects e = concat_map effect_rows (singled_effect e)

abbrev pub new_rows_of : List Piece → List Row
new_rows_of = concat_map (rows_by new_effects)

-- no plain row opens an effect, and after an effect no row follows that would be of it
abbrev pub Sound : List Piece → Type 0
Sound [] = Unit {0}
Sound (plain x ∷ ps) = (has_mark EFFECT x ≡ false) × Sound ps
Sound (effect e ∷ ps) = Stops (between CLAUSE DELETE) (rows_of ps) × Sound ps

-- every effect has few choices
abbrev pub narrow_piece : Piece → Bool
narrow_piece (plain x) = true
narrow_piece (effect e) = is_narrow e

-- The pieces of a task

abbrev action_pieces : Action → List Piece
action_pieces a = map plain (row ACTION a.cost ∷ condition_rows a.precondition) ++ map effect a.effects

abbrev pub task_pieces : Task → List Piece
task_pieces t =
    map plain (opened t) ++ (concat_map action_pieces t.actions ++ map plain (concat_map preference_rows t.preferences))

module _ (f : Effect → List Row) where
  plain_rows : (xs : List Row) → concat_map (rows_by f) (map plain xs) ≡ xs
  plain_rows [] = refl
  plain_rows (x ∷ xs) = ap (λ (ys : List Row). x ∷ ys) (plain_rows xs)

  abbrev action_by : Action → List Row
  action_by a = row ACTION a.cost ∷ condition_rows a.precondition ++ concat_map f a.effects

  action_rows_lem : (a : Action) → concat_map (rows_by f) (action_pieces a) ≡ action_by a
  action_rows_lem a =
      concat-append (rows_by f) (map plain (row ACTION a.cost ∷ condition_rows a.precondition)) (map effect a.effects)
      ∙ ap₂ ◌++◌ (plain_rows (row ACTION a.cost ∷ condition_rows a.precondition)) (concat-map (rows_by f) effect a.effects)

  actions_rows : (l : List Action) → concat_map (rows_by f) (concat_map action_pieces l) ≡ concat_map action_by l
  actions_rows [] = refl
  actions_rows (a ∷ l) = concat-append (rows_by f) (action_pieces a) (concat_map action_pieces l) ∙ ap₂ ◌++◌ (action_rows_lem a) (actions_rows l)

  task_by : (t : Task) → concat_map (rows_by f) (task_pieces t)
      ≡ opened t ++ (concat_map action_by t.actions ++ concat_map preference_rows t.preferences)
  task_by t =
      let prefs : List Row = concat_map preference_rows t.preferences in
      concat-append (rows_by f) (map plain (opened t)) (concat_map action_pieces t.actions ++ map plain prefs)
      ∙ ap₂ ◌++◌ (plain_rows (opened t))
      (concat-append (rows_by f) (concat_map action_pieces t.actions) (map plain prefs) ∙ ap₂ ◌++◌ (actions_rows t.actions) (plain_rows prefs))

pub task_pieces_lem : (t : Task) → rows_of (task_pieces t) ≡ task_rows t
task_pieces_lem t =
    task_by effect_rows t
    ∙ sym (append_assoc (opened t) (concat_map action_rows t.actions) (concat_map preference_rows t.preferences))

-- the new task's
new_effects_lem : (es : List Effect) → concat_map effect_rows (concat_map singled_effect es) ≡ concat_map new_effects es
new_effects_lem [] = refl
new_effects_lem (e ∷ es) =
    concat-append effect_rows (singled_effect e) (concat_map singled_effect es) ∙ ap (λ (xs : List Row). new_effects e ++ xs) (new_effects_lem es)

new_actions : (l : List Action) → concat_map action_rows (map singled_action l) ≡ concat_map (action_by new_effects) l
new_actions [] = refl
new_actions (a ∷ l) =
    ap₂ (λ (xs ys : List Row). (row ACTION a.cost ∷ condition_rows a.precondition ++ xs) ++ ys) (new_effects_lem a.effects) (new_actions l)

pub new_pieces : (t : Task) → new_rows_of (task_pieces t) ≡ task_rows (singled t)
unfolding singled
new_pieces t =
    task_by new_effects t
    ∙ sym (ap (λ (xs : List Row). opened t ++ xs ++ concat_map preference_rows t.preferences) (new_actions t.actions)
    ∙ append_assoc (opened t) (concat_map (action_by new_effects) t.actions) (concat_map preference_rows t.preferences))

-- They are sound

plain_sound : (xs : List Row) (ps : List Piece) → T (no_effect xs) → Sound ps → Sound (map plain xs ++ ps)
plain_sound [] ps t s = s
plain_sound (x ∷ xs) ps t s = (as_false (has_mark EFFECT x) (search tests), plain_sound xs ps (search tests) s)

-- no row that would be of an effect comes first
abbrev Apart : List Piece → Type 0
Apart ps = Stops (between CLAUSE DELETE) (rows_of ps)

effects_sound : (es : List Effect) (ps : List Piece) → Sound ps → Apart ps → Sound (map effect es ++ ps) × Apart (map effect es ++ ps)
effects_sound [] ps s a = (s, a)
effects_sound (e ∷ es) ps s a = let r = effects_sound es ps s a in ((r.1, r.0), refl)

actions_sound : (l : List Action) (ps : List Piece) → Sound ps → Apart ps → Sound (concat_map action_pieces l ++ ps) × Apart (concat_map action_pieces l ++ ps)
actions_sound [] ps s a = (s, a)
actions_sound (x ∷ l) ps s a =
    let r = actions_sound l ps s a in
    let head : List Row = row ACTION x.cost ∷ condition_rows x.precondition in
    let more : List Piece = concat_map action_pieces l in
    let es : List Piece = map effect x.effects in
    let grouped : map plain head ++ es ++ more ++ ps ≡ map plain head ++ (es ++ (more ++ ps)) =
    cc (append_assoc (map plain head ++ es) more ps, append_assoc (map plain head) es (more ++ ps)) in (
      subst⁻¹ Sound grouped
          (plain_sound head (es ++ (more ++ ps)) (condition_effectless x.precondition) (effects_sound x.effects (more ++ ps) r.0 r.1).0),
      refl,
    )

preferences_apart : (qs : List Preference) → Apart (map plain (concat_map preference_rows qs))
preferences_apart [] = tt
preferences_apart (q ∷ qs) = past_kinds (between CLAUSE DELETE) tt q.hard q.kind

pub task_sound : (t : Task) → Sound (task_pieces t)
task_sound t =
    let prefs : List Row = concat_map preference_rows t.preferences in
    let last : Sound (map plain prefs) =
    subst Sound (append-nil (map plain prefs)) (plain_sound prefs [] (preferences_effectless t.preferences) tt) in
    plain_sound (opened t) (concat_map action_pieces t.actions ++ map plain prefs)
    (all_both (without (has_mark EFFECT)) (map (row START) t.start) (row GOAL 0 ∷ condition_rows t.goal)
    (all_map (without (has_mark EFFECT)) (row START) (λ v. tt) t.start) (condition_effectless t.goal))
    (actions_sound t.actions (map plain prefs) last (preferences_apart t.preferences)).0

-- and narrow where the task is

plain_narrow : (xs : List Row) → T (all narrow_piece (map plain xs))
plain_narrow = all_map narrow_piece plain (λ x. tt)

action_narrow : (a : Action) → T (all is_narrow a.effects) → T (all narrow_piece (action_pieces a))
action_narrow a h =
    all_both narrow_piece (map plain (row ACTION a.cost ∷ condition_rows a.precondition)) (map effect a.effects)
    (plain_narrow (row ACTION a.cost ∷ condition_rows a.precondition))
    (all_mapped narrow_piece is_narrow effect (λ e g. g) a.effects h)

pub task_narrow : (t : Task) → T (all_narrow t) → T (all narrow_piece (task_pieces t))
task_narrow t h =
    let prefs : List Row = concat_map preference_rows t.preferences in
    all_both narrow_piece (map plain (opened t)) (concat_map action_pieces t.actions ++ map plain prefs) (plain_narrow (opened t))
    (all_both narrow_piece (concat_map action_pieces t.actions) (map plain prefs)
    (all_joined narrow_piece (λ (a : Action). all is_narrow a.effects) action_pieces action_narrow t.actions h) (plain_narrow prefs))
