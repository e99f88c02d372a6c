-- The rows at which preferences begin are those of the rules.
use mathlib.Core.Path.{◌≡◌, refl, sym, ap, ◌∙◌, subst}
use mathlib.Core.List.{List, ◌∷◌}
use Prim.Native.Nat.{ℕ, zero, suc, ◌+◌, ◌<◌}
use native.Mathlib.Nat.{add-zero, not-suc-le-zero, le_of_suc-le-suc}
use native.Mathlib.Numerals.{add-one}
use native.Mathlib.Omega.{arith}
use lib.Dec.{T}
use lib.ListN.{length, drop, get_or}
use lib.Seq.{drop-cons}
use Rattle.lists.specs.Lists.{all, concat_map}
use Rattle.meaning.specs.Task.{Preference, Task}
use Rattle.meaning.specs.Meaning.{no_preference}
use Rattle.task.specs.TaskRows.{preference_rows}
use Rattle.task.specs.File.{paired}
use Rattle.task.specs.Spelling.{preference_spellable}
use Rattle.lists.proofs.Tests.{tests, all_at}
use Rattle.layout.specs.Rows.{Spells, PreferencesAt}
use Rattle.layout.specs.Sides.{starts_from, after_preference}
use Rattle.layout.proofs.Starting.{after_is}
use Rattle.lost_run.specs.Run.{RuleAt, Rules}

many_starts : (ms : List ℕ) (at n : ℕ) → length (starts_from ms at n) ≡ n
many_starts ms at zero = refl
many_starts ms at (suc n) = omega (arith, many_starts ms (after_preference ms at) n)

module _ (ms vs : List ℕ) (qs : List Preference) (fine : T (all preference_spellable qs)) where
  -- preference number c, at row `at`
  module _ (c : ℕ) (below : c < length qs) (at : ℕ) (there : drop at (paired ms vs) ≡ concat_map preference_rows (drop c qs)) where
    abbrev q : Preference
    q = get_or qs c no_preference

    here : drop at (paired ms vs) ≡ concat_map preference_rows (q ∷ drop (c + 1) qs)
    here = there ∙ ap (concat_map preference_rows) (drop-cons qs c no_preference below ∙ ap (λ (i : ℕ). q ∷ drop i qs) (sym (add-one c)))

    first_rule : RuleAt ms vs at q
    first_rule =
        let ok : T (preference_spellable q) = all_at preference_spellable qs c no_preference fine below in
        record { rest = drop (c + 1) qs; spelled = here; spelling = search tests }

    next_rules : drop (after_preference ms at) (paired ms vs) ≡ concat_map preference_rows (drop (c + 1) qs)
    next_rules = after_is ms vs at q (drop (c + 1) qs) here

  -- and n of them from it on
  starts_at : (n c k j : ℕ) → c + n ≡ length qs → c + k ≡ j → k < n → (at : ℕ) → drop at (paired ms vs) ≡ concat_map preference_rows (drop c qs)
      → RuleAt ms vs (get_or (starts_from ms at n) k 0) (get_or qs j no_preference)
  starts_at zero c k j many e h at there = absurd (not-suc-le-zero h)
  starts_at (suc n) c zero j many e h at there =
      subst (λ (i : ℕ). RuleAt ms vs at (get_or qs i no_preference)) (sym (add-zero c) ∙ e) (first_rule c (omega arith) at there)
  starts_at (suc n) c (suc k) j many e h at there =
      starts_at n (c + 1) k j (omega arith) (omega arith) (le_of_suc-le-suc h) (after_preference ms at) (next_rules c (omega arith) at there)

pub noted_rules : (t : Task) (ms vs : List ℕ) → Spells ms vs t → (at : ℕ) → PreferencesAt t ms vs at → (n : ℕ) → n ≡ length t.preferences
    → Rules ms vs (starts_from ms at n) t
noted_rules t ms vs R at there n e =
    let fine : T (all preference_spellable t.preferences) = (let s = R.spelling in search tests) in
    record {
      many = many_starts ms at n ∙ e;
      few = omega (arith, many_starts ms at n, R.few_preferences);
      each = λ k h. starts_at ms vs t.preferences fine n 0 k k (omega arith) (omega arith) (omega arith) at there;
    }
