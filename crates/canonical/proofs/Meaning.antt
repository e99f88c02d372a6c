-- Two tasks that differ only in order and repeats mean the same, and rows can spell the one where they can spell the other.
use mathlib.Core.Path.{◌≡◌, refl, sym, ap₂, ◌∙◌, fun_ext}
use mathlib.Core.Bool.{Bool, not, ◌&&◌, ◌||◌}
use mathlib.Core.List.{List, [], ◌∷◌}
use Prim.Native.Nat.{ℕ}
use lib.Dec.{leb, ltb, eqb}
use Rattle.lists.specs.Lists.{any, elem, is_empty}
use Rattle.meaning.specs.Task.{Literal, Clause, Condition, Effect, Action, Preference, Task, two_sided}
use Rattle.task.specs.Limits.{MAX_AMOUNT}
use Rattle.task.specs.Spelling.{weight_allowed, kind_spellable}
use Rattle.meaning.specs.Meaning.{State, literal_true, is_true}
use Rattle.meaning.proofs.Effects.{added, deleted, changed, after_is}
use Rattle.task.proofs.Pieces.{clause_ok, condition_ok, effect_ok, action_ok, preference_ok, start_ok, task_ok}
use Rattle.alike.specs.Each.{Each}
use Rattle.alike.specs.Alike.{AlikeCondition, AlikeAction, AlikePreference, Alike}
use Rattle.alike.proofs.Each.{each_any, each_all, each_implies}
use Rattle.canonical.specs.SameSpelling.{SameMembers, SameCondition, SameEffect, SameAction, SamePreference, SameSpelling}
use Rattle.canonical.proofs.Members.{any_same_members, all_same_members, non_empty_same_members}

-- Meaning

condition_alike : (c d : Condition) → SameCondition c d → AlikeCondition c d
condition_alike c d e σ = each_all SameMembers (any (literal_true σ)) (any (literal_true σ)) (any_same_members (literal_true σ)) c d e

module _ (σ : State) (n : ℕ) where
  -- some effect that fires has n in its list
  firings : (w : Effect → List ℕ) → ((e f : Effect) → SameEffect e f → SameMembers (w e) (w f)) → (es fs : List Effect)
      → Each SameEffect es fs
      → any (λ (e : Effect). is_true σ e.condition && elem n (w e)) es ≡ any (λ (e : Effect). is_true σ e.condition && elem n (w e)) fs
  firings w h =
      each_any SameEffect (λ (e : Effect). is_true σ e.condition && elem n (w e)) (λ (e : Effect). is_true σ e.condition && elem n (w e))
      (λ e f p. ap₂ ◌&&◌ (condition_alike e.condition f.condition p.condition σ) (any_same_members (eqb n) (w e) (w f) (h e f p)))

  same_changed : (es fs : List Effect) → Each SameEffect es fs → changed σ es n ≡ changed σ fs n
  unfolding added deleted changed
  same_changed es fs e =
      ap₂ (λ (x y : Bool). x || σ n && not y) (firings (λ (e : Effect). e.adds) (λ e f p. p.adds) es fs e)
      (firings (λ (e : Effect). e.deletes) (λ e f p. p.deletes) es fs e)

action_alike : (a b : Action) → SameAction a b → AlikeAction a b
action_alike a b p =
    record {
      cost = p.cost;
      precondition = condition_alike a.precondition b.precondition p.precondition;
      leads = λ σ. fun_ext (λ n. after_is σ a n ∙ same_changed σ n a.effects b.effects p.effects ∙ sym (after_is σ b n));
    }

preference_alike : (q r : Preference) → SamePreference q r → AlikePreference q r
preference_alike q r p =
    record {
      kind = p.kind;
      hard = p.hard;
      weight = p.weight;
      first = condition_alike q.first r.first p.first;
      second = condition_alike q.second r.second p.second;
    }

pub spelling_alike : (s t : Task) → SameSpelling s t → Alike s t
spelling_alike s t e =
    record {
      start = λ i n. elem n (e.start i);
      goal = condition_alike s.goal t.goal e.goal;
      actions = each_implies SameAction AlikeAction action_alike s.actions t.actions e.actions;
      preferences = each_implies SamePreference AlikePreference preference_alike s.preferences t.preferences e.preferences;
    }

-- What rows ask of a task

module _ (F : ℕ) where
  clause_ok_lem : (c d : Clause) → SameMembers c d → clause_ok F c ≡ clause_ok F d
  clause_ok_lem c d e = ap₂ ◌&&◌ (non_empty_same_members c d e) (all_same_members (λ (l : Literal). ltb l.fact F) c d e)

  condition_ok_lem : (c d : Condition) → SameCondition c d → condition_ok F c ≡ condition_ok F d
  condition_ok_lem = each_all SameMembers (clause_ok F) (clause_ok F) clause_ok_lem

  effect-ok : (e f : Effect) → SameEffect e f → effect_ok F e ≡ effect_ok F f
  effect-ok e f p = λ i.
      condition_ok_lem e.condition f.condition p.condition i
      && all_same_members (λ (n : ℕ). ltb n F) e.adds f.adds p.adds i
      && all_same_members (λ (n : ℕ). ltb n F) e.deletes f.deletes p.deletes i

  action_ok_lem : (a b : Action) → SameAction a b → action_ok F a ≡ action_ok F b
  action_ok_lem a b p = λ i.
      leb (p.cost i) MAX_AMOUNT
      && condition_ok_lem a.precondition b.precondition p.precondition i
      && each_all SameEffect (effect_ok F) (effect_ok F) effect-ok a.effects b.effects p.effects i

  same_empty : (c d : Condition) → SameCondition c d → is_empty c ≡ is_empty d
  same_empty [] [] e = refl
  same_empty [] (d ∷ ds) e = absurd e
  same_empty (c ∷ cs) [] e = absurd e
  same_empty (c ∷ cs) (d ∷ ds) e = refl

  preference_ok_lem : (q r : Preference) → SamePreference q r → preference_ok F q ≡ preference_ok F r
  preference_ok_lem q r p = λ i.
      weight_allowed (p.hard i) (p.weight i)
      && kind_spellable (p.kind i)
      && condition_ok_lem q.first r.first p.first i
      && condition_ok_lem q.second r.second p.second i
      && (two_sided (p.kind i) || same_empty q.second r.second p.second i)

  pub spelling_ok : (s t : Task) → SameSpelling s t → task_ok F s ≡ task_ok F t
  spelling_ok s t e = λ i.
      start_ok F 0 (e.start i)
      && condition_ok_lem s.goal t.goal e.goal i
      && each_all SameAction (action_ok F) (action_ok F) action_ok_lem s.actions t.actions e.actions i
      && each_all SamePreference (preference_ok F) (preference_ok F) preference_ok_lem s.preferences t.preferences e.preferences i
