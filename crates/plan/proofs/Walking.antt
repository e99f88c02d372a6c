-- A plan walked on the task in a file, from what check answers.
use mathlib.Core.Path.{◌≡◌, refl, sym, ap, ◌∙◌, subst⁻¹}
use mathlib.Core.Bool.{Bool, true, false, cond, ◌&&◌}
use mathlib.Core.List.{List, [], ◌∷◌}
use Rattle.std.specs.Prelude.{Result, Err}
use Prim.Native.Nat.{ℕ, suc, ◌≤◌, ◌<◌}
use native.Mathlib.Omega.{arith}
use lib.Dec.{T, leb, ltb}
use lib.ListN.{length}
use borrow.Author.Tests.{le-leb, lt-leb, lt-ltb, le-ltb, leb-true, leb-false}
use Rattle.lists.specs.Lists.{all, take_until}
use Rattle.meaning.specs.Task.{Task}
use Rattle.task.specs.File
use Rattle.task.specs.File.{task_of, marks_of, values_of}
use Rattle.task.specs.Check
use Rattle.task.specs.Check.{Answer, check}
use Rattle.meaning.specs.Literals.{literals}
use Rattle.task.specs.Answers.{number_of, answer as checked, as_sizes}
use Rattle.task.specs.declared.Sizes.{Sizes}
use Rattle.task.specs.declared.Refusal.{Refusal}
use Rattle.lists.proofs.Tests.{as_true}
use Rattle.task.proofs.Spelled.{Spelling, accepted_spelling}
use Rattle.task.proofs.Checking.{within}
use Rattle.task.proofs.Answered.{passed_on}
use Rattle.plan.specs.Judged.{steps_known, judged_by, judged}
use Rattle.plan.specs.Walked.{Walked, refused, without_worth, walked}
use Rattle.layout.specs.Rows.{Spells}
use Rattle.layout.specs.Actions.{actions_from, AllBelow}
use Rattle.plan.specs.Steps.{walked_on}
use Rattle.layout.proofs.Parts.{parts_spelled}
use Rattle.layout.proofs.ActionRows.{as_many}

-- all steps are known exactly where as many as there are stand before the first that is not
pub all_known : (A : ℕ) (p : List ℕ) → length p ≤ steps_known A p → T (all (λ (k : ℕ). ltb k A) p)
all_known A [] h = tt
all_known A (k ∷ ks) h = go (leb A k) refl h (all_known A ks)
  where
    go : (b : Bool) → leb A k ≡ b → suc (length ks) ≤ length (cond b [] (k ∷ take_until (leb A) ks))
        → (length ks ≤ steps_known A ks → T (all (λ (k : ℕ). ltb k A) ks)) → T (ltb k A && all (λ (k : ℕ). ltb k A) ks)
    go true e h rest = absurd (omega arith)
    go false e h rest = rw (lt-ltb k A (leb-false A k e)) (rest (omega arith))

pub not-all_known : (A : ℕ) (p : List ℕ) → steps_known A p < length p → all (λ (k : ℕ). ltb k A) p ≡ false
not-all_known A [] h = absurd (omega arith)
not-all_known A (k ∷ ks) h = go (leb A k) refl h (not-all_known A ks)
  where
    go : (b : Bool) → leb A k ≡ b → length (cond b [] (k ∷ take_until (leb A) ks)) < suc (length ks)
        → (steps_known A ks < length ks → all (λ (k : ℕ). ltb k A) ks ≡ false) → (ltb k A && all (λ (k : ℕ). ltb k A) ks) ≡ false
    go true e h rest = rw (le-ltb k A (leb-true A k e))
    go false e h rest = rw (lt-ltb k A (leb-false A k e)) (rest (omega arith))

-- What check answered

module _ (b p : List ℕ) (x : Result Sizes Refusal) (e : checked x ≡ check b) where
  -- a file that is not accepted: its refusal
  pub turned_down : (r : Refusal) → x ≡ Err r → refused (number_of r.cause) r.place ≡ walked b p
  unfolding judged walked
  turned_down = passed_on (λ (a : Answer). without_worth (literals (task_of b) p) (judged_by b p a)) b x e

-- a file that is accepted, of sizes z
module _ (b p : List ℕ) (z : Sizes) (accepted : check b ≡ Check.accepted (as_sizes z)) where
  on_task : without_worth (literals (task_of b) p) (judged_by b p (Check.accepted (as_sizes z))) ≡ walked b p
  unfolding judged walked
  on_task = ap (λ (a : Answer). without_worth (literals (task_of b) p) (judged_by b p a)) (sym accepted)

  pub too_long : 2048 < length p → refused 10 0 ≡ walked b p
  too_long h = (rw (lt-leb (length p) 2048 h) at on_task)

  module _ (fits : length p ≤ 2048) where
    pub unknown : steps_known z.actions p < length p → refused 11 (steps_known z.actions p) ≡ walked b p
    unknown h = (rw (le-leb (length p) 2048 fits, not-all_known z.actions p h) at on_task)

    module _ (h : length p ≤ steps_known z.actions p) where
      abbrev ms : List ℕ
      ms = marks_of b z.rows

      abbrev vs : List ℕ
      vs = values_of b z.rows

      -- as many actions as the file says, which are at most 128, and each step is one of them
      pub actions_fit : (length (actions_from 0 ms) ≤ 128) × AllBelow (length (actions_from 0 ms)) p
      actions_fit =
          let s : Spelling b (as_sizes z) = accepted_spelling b (as_sizes z) accepted in
          let limits = within (as_sizes z) s.allowed in
          let many : length (actions_from 0 ms) ≡ z.actions =
          as_many (task_of b) ms vs (parts_spelled b (as_sizes z) accepted) ∙ ap (λ (x : File.Sizes). x.actions) s.sized in
          (omega (arith, limits, many), subst⁻¹ (λ (n : ℕ). AllBelow n p) many (all_known z.actions p h))

      pub run_on : (w : Walked) → ((t : Task) → Spells ms vs t → w ≡ walked_on t p) → w ≡ walked b p
      run_on w says =
          says (task_of b) (parts_spelled b (as_sizes z) accepted)
          ∙ (rw (le-leb (length p) 2048 fits, as_true (all (λ (k : ℕ). ltb k z.actions) p) (all_known z.actions p h)) at on_task)
