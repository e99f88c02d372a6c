-- From every state each action leads where it led: the task with single literals means what its source means.
use mathlib.Core.Path.{◌≡◌, refl, sym, ap, ap₂, ◌∙◌, fun_ext}
use mathlib.Core.Bool.{Bool, not, ◌&&◌, ◌||◌}
use mathlib.Core.List.{List}
use Prim.Native.Nat.{ℕ}
use Rattle.lists.specs.Lists.{any, elem, concat_map}
use Rattle.meaning.specs.Task.{Literal, Effect, Action, Task}
use Rattle.meaning.specs.Meaning.{State, is_true, after}
use Rattle.meaning.proofs.Effects.{added, deleted, changed, after_is}
use Rattle.alike.specs.Alike.{AlikeAction, AlikePreference, Alike, JudgedAlike}
use Rattle.alike.proofs.Each.{each_becomes, each_itself}
use Rattle.alike.proofs.Verdict.{judged_alike}
use Rattle.singling.specs.Singled.{choices, chosen, singled_effect, singled_action, singled}
use Rattle.singling.proofs.Lists.{any-map, any-concat, any_each, any-and_right}
use Rattle.singling.proofs.Choices.{choice_true, choices-true}

module _ (s : State) (n : ℕ) where
  -- the effect fires and n is in its list
  abbrev firing : (Effect → List ℕ) → Effect → Bool
  firing w e = is_true s e.condition && elem n (w e)

  module _ (w : Effect → List ℕ) (copied : (e : Effect) (ls : List Literal) → w (chosen e ls) ≡ w e) where
    one_firing : (e : Effect) → any (firing w) (singled_effect e) ≡ firing w e
    one_firing e =
        any-map (firing w) (chosen e) (choices e.condition)
        ∙ any_each (λ (ls : List Literal). firing w (chosen e ls)) (λ (ls : List Literal). choice_true s ls && elem n (w e))
        (λ ls. ap (λ (ns : List ℕ). choice_true s ls && elem n ns) (copied e ls)) (choices e.condition)
        ∙ any-and_right (elem n (w e)) (choice_true s) (choices e.condition)
        ∙ ap (λ (b : Bool). b && elem n (w e)) (choices-true s e.condition)

    all_firings : (es : List Effect) → any (firing w) (concat_map singled_effect es) ≡ any (firing w) es
    all_firings es = any-concat (firing w) singled_effect es ∙ any_each (λ (e : Effect). any (firing w) (singled_effect e)) (firing w) one_firing es

  singled_changed : (es : List Effect) → changed s (concat_map singled_effect es) n ≡ changed s es n
  unfolding added deleted changed
  singled_changed es =
      ap₂ (λ (x y : Bool). x || s n && not y) (all_firings (λ (e : Effect). e.adds) (λ e ls. refl) es)
      (all_firings (λ (e : Effect). e.deletes) (λ e ls. refl) es)

pub singled_leads : (a : Action) (s : State) → after s a ≡ after s (singled_action a)
singled_leads a s = fun_ext (λ n. after_is s a n ∙ sym (singled_changed s n a.effects) ∙ sym (after_is s (singled_action a) n))

pub singled_alike : (t : Task) → Alike t (singled t)
unfolding singled
singled_alike t =
    record {
      start = refl;
      goal = λ σ. refl;
      actions = each_becomes AlikeAction singled_action
          (λ a. record { cost = refl; precondition = λ σ. refl; leads = singled_leads a }) t.actions;
      preferences = each_itself AlikePreference
          (λ q. record { kind = refl; hard = refl; weight = refl; first = λ σ. refl; second = λ σ. refl }) t.preferences;
    }

pub singled_judged : (t : Task) (p : List ℕ) → JudgedAlike t (singled t) p
singled_judged t = judged_alike t (singled t) (singled_alike t)
