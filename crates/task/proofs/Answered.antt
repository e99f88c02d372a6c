-- What a caller of check takes from an accepted file.
use mathlib.Core.Path.{◌≡◌, sym, ap, ◌∙◌}
use mathlib.Core.List.{List}
use Rattle.std.specs.Prelude.{Result, Ok, Err}
use Prim.Native.Nat.{ℕ, ◌+◌, ◌*◌, ◌≤◌}
use lib.ListN.{length}
use Rattle.task.specs.TaskRows.{task_rows}
use Rattle.task.specs.File.{Sizes, task_of}
use Rattle.task.specs.Check.{Answer, accepted, refused, check}
use Rattle.task.specs.Limits.{MAX_FACTS, MAX_ACTIONS, MAX_PREFERENCES, MAX_ROWS}
use Rattle.task.specs.Answers.{number_of, answer, as_sizes}
use Rattle.task.specs.declared.Refusal.{Refusal}
use Rattle.task.specs.declared.Sizes
use Rattle.task.proofs.Checking.{within, parts_of, parts_rows}
use Rattle.task.proofs.Spelled.{Spelling, accepted_spelling}

-- the refusal in check's answer, passed on by a caller whose own answer is made by check's
pub passed_on : {R : Type 0} (by : Answer → R) (b : List ℕ) (x : Result Sizes.Sizes Refusal) → answer x ≡ check b → (r : Refusal) → x ≡ Err r
    → by (refused (number_of r.cause) r.place) ≡ by (check b)
passed_on by b x e r q = ap by (sym (ap answer q) ∙ e)

-- the file's length by its rows, and its sizes within their limits
pub record Limited (b : List ℕ) (z : Sizes) : Type 0 where
  pub exact : length b ≡ 8 + 5 * z.rows
  pub few_rows : z.rows ≤ MAX_ROWS
  pub some_facts : 1 ≤ z.facts
  pub few_facts : z.facts ≤ MAX_FACTS
  pub few_actions : z.actions ≤ MAX_ACTIONS
  pub few_preferences : z.preferences ≤ MAX_PREFERENCES

module _ (b : List ℕ) (z : Sizes) (h : check b ≡ accepted z) where
  spells : Spelling b z
  spells = accepted_spelling b z h

  pub limited : Limited b z
  limited =
      let w = within z spells.allowed in
      record { exact = spells.exact; few_rows = w.0; some_facts = w.1; few_facts = w.2; few_actions = w.3; few_preferences = w.4 }

  -- the rows that it says it has stand in it
  pub has_rows : (z.rows ≤ MAX_ROWS) × (length b ≡ 8 + 5 * z.rows)
  has_rows = (limited.few_rows, limited.exact)

  -- and spell its task
  pub parts_spell : parts_of b z ≡ task_rows (task_of b)
  parts_spell = parts_rows b z spells.same ∙ spells.spelled

-- the same of the sizes in check's answer, where a caller takes it apart
pub answered : (b : List ℕ) (x : Result Sizes.Sizes Refusal) → answer x ≡ check b → (z : Sizes.Sizes) → x ≡ Ok z → Limited b (as_sizes z)
answered b x e z q = limited b (as_sizes z) (sym e ∙ ap answer q)
