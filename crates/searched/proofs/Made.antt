-- A search is made, or refused.
use mathlib.Core.Path.{◌≡◌, refl, ◌∙◌, ap}
use mathlib.Core.Bool.{Bool, true, false, cond}
use mathlib.Core.List.{List, [], ◌∷◌}
use Prim.Native.Nat.{ℕ, ◌≤◌}
use native.Mathlib.Omega.{arith}
use lib.Dec.{T, eqb, leb→le, eqb→eq}
use lib.ListN.{length}
use Rattle.lists.proofs.Tests.{tests, as_t}
use Rattle.meaning.specs.Task.{Preference, well_formed}
use Rattle.task.specs.File.{Sizes, task_of}
use Rattle.task.specs.Check
use Rattle.task.specs.Check.{check}
use Rattle.task.specs.Refused.{PREFERENCES, LIMIT}
use Rattle.task.proofs.Spelled.{accepted_spelling}
use Rattle.searching.specs.Limits.{MAX_NODES, NodeLimit}
use Rattle.searching.specs.Search.{explore}
use Rattle.searched.specs.Searched.{Searched, searched, refusal, limit_allowed, search_by, search_file}

pub no_preferences : (ps : List Preference) → length ps ≡ 0 → ps ≡ []
no_preferences [] e = refl
no_preferences (p ∷ ps) e = absurd (omega arith)

-- what is known where a search is made
pub record Made (b : List ℕ) (limit room : ℕ) : Type 0 where
  pub formed : T (well_formed (task_of b))
  pub plain : (task_of b).preferences ≡ []
  pub allowed : NodeLimit limit
  pub roomy : limit ≤ room

module _ (b : List ℕ) (limit room : ℕ) where
  pub made : (z : Sizes) → check b ≡ Check.accepted z → T (eqb z.preferences 0) → T (limit_allowed limit room) → Made b limit room
  made z e none allowed =
      let s = accepted_spelling b z e in
      let nothing : length (task_of b).preferences ≡ 0 = ap (λ (y : Sizes). y.preferences) s.sized ∙ eqb→eq z.preferences 0 none in
      record {
        formed = s.formed;
        plain = no_preferences (task_of b).preferences nothing;
        allowed = record { some = leb→le 1 limit (search tests); few = leb→le limit MAX_NODES (search tests) };
        roomy = leb→le limit room (search tests);
      }

  module _ (P : Searched → Type 0) (not_made : (n i : ℕ) → P (refusal n i)) (is_made : Made b limit room → P (searched (explore (task_of b) limit))) where
    by_tests : (z : Sizes) → check b ≡ Check.accepted z → (p l : Bool) → eqb z.preferences 0 ≡ p → limit_allowed limit room ≡ l
        → P (cond p (cond l (searched (explore (task_of b) limit)) (refusal LIMIT 0)) (refusal PREFERENCES 0))
    by_tests z e true true p l = is_made (made z e (as_t p) (as_t l))
    by_tests z e true false p l = not_made LIMIT 0
    by_tests z e false l' p l = not_made PREFERENCES 0

    by_check : (a : Check.Answer) → check b ≡ a → P (search_by b limit room a)
    by_check (Check.refused n i) e = not_made n i
    by_check (Check.accepted z) e = by_tests z e (eqb z.preferences 0) (limit_allowed limit room) refl refl

    -- what holds of every refusal and of every search holds of every answer
    pub by_made : P (search_file b limit room)
    unfolding search_file
    by_made = by_check (check b) refl
