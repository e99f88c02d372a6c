-- A task file spelled, from what check answers.
use mathlib.Core.Path.{◌≡◌, sym, ap, ◌∙◌, subst}
use mathlib.Core.Bool.{true}
use mathlib.Core.List.{List}
use Prim.Native.Nat.{ℕ, ◌≤◌}
use native.Mathlib.Omega.{arith}
use Rattle.std.specs.Prelude.{Result, Ok, Err}
use lib.ListN.{length}
use Rattle.lists.proofs.Tests.{as_true}
use Rattle.task.specs.TaskRows.{Row, task_rows}
use Rattle.task.specs.File
use Rattle.task.specs.File.{paired, sizes_of, task_of, file_of_rows, with_rows}
use Rattle.task.specs.Check
use Rattle.task.specs.Check.{check, sizes_allowed}
use Rattle.task.specs.Answers.{answer as checked, as_sizes, number_of}
use Rattle.task.specs.declared.Sizes.{Sizes}
use Rattle.task.specs.declared.Refusal.{Refusal}
use Rattle.task.proofs.Bytes.{file_length}
use Rattle.task.proofs.Spelled.{Spelling, accepted_spelling}
use Rattle.task.proofs.Answered.{passed_on, parts_spell, Limited, limited}
use Rattle.outcome.specs.Outcome.{fitted, area_after}
use Rattle.outcome.specs.Answers.{answer}
use Rattle.outcome.proofs.Outcomes.{turned_down as left_alone}
use Rattle.canonical.specs.Canonical.{canonical, respelled, respelled_rows}
use Rattle.canonical.proofs.Respelled.{canonical_sizes, respelled_file}
use Rattle.spelling.specs.Spelled.{spelled_rows}
use Rattle.spelling.specs.Outcome.{outcome_by, outcome, Fitted}
use Rattle.spelling.proofs.TaskSpelled.{task_spelled}

module _ (b area : List ℕ) (x : Result Sizes Refusal) (e : checked x ≡ check b) where
  -- what spell promises of its answer r and the area out
  abbrev Promised : Result ℕ Refusal → List ℕ → Type 0
  Promised r out = (answer r ≡ outcome b (length area)) × (out ≡ area_after (respelled b) area (outcome b (length area)))

  pub turned_down : (y : Result ℕ Refusal) (r : Refusal) → y ≡ Err r → x ≡ Err r → Promised y area
  unfolding outcome
  turned_down y r p q =
      left_alone (respelled b) area (outcome b (length area)) (answer y) (number_of r.cause) r.place (ap answer p)
      (sym (passed_on (outcome_by b (length area)) b x e r q))

  module _ (z : Sizes) (q : x ≡ Ok z) where
    accepted : check b ≡ Check.accepted (as_sizes z)
    accepted = sym e ∙ ap checked q

    spelling : Spelling b (as_sizes z)
    spelling = accepted_spelling b (as_sizes z) accepted

    pub allowed : sizes_allowed (as_sizes z) ≡ true
    allowed = as_true (sizes_allowed (as_sizes z)) spelling.allowed

    sizes_limited : Limited b (as_sizes z)
    sizes_limited = limited b (as_sizes z) accepted

    -- the rows, as they are lent on
    abbrev rows : List Row
    rows = paired (File.marks_of b z.rows) (File.values_of b z.rows)

    sized : as_sizes z ≡ sizes_of (task_of b)
    sized = sym spelling.sized

    few_facts : (task_of b).facts ≤ 128
    few_facts = omega (arith, sizes_limited.few_facts, ap (λ (y : File.Sizes). y.facts) sized)

    rows_are : spelled_rows rows ≡ task_rows (canonical (task_of b))
    rows_are = ap spelled_rows (parts_spell b (as_sizes z) accepted) ∙ task_spelled (task_of b) spelling.formed few_facts

    pub fewer : length (spelled_rows rows) ≤ z.rows
    fewer = omega (arith, ap length rows_are, (respelled_file b (as_sizes z) accepted).fewer)

    same_sizes : with_rows (as_sizes z) (respelled_rows b) ≡ sizes_of (canonical (task_of b))
    same_sizes = ap (λ (y : File.Sizes). with_rows y (respelled_rows b)) sized ∙ sym (canonical_sizes (task_of b))

    file_is : file_of_rows z.facts z.actions z.preferences (spelled_rows rows) ≡ respelled b
    file_is = λ i. file_of_rows (same_sizes i).facts (same_sizes i).actions (same_sizes i).preferences (rows_are i)

    due : fitted (length (respelled b)) (length area) ≡ outcome b (length area)
    unfolding outcome
    due =
        let t = canonical (task_of b) in
        ap (λ (n : ℕ). fitted n (length area)) (file_length t.facts (length t.actions) (length t.preferences) (task_rows t))
        ∙ sym (ap (outcome_by b (length area)) accepted)

    pub put : (r : Result ℕ Refusal) (out : List ℕ) → Fitted (file_of_rows z.facts z.actions z.preferences (spelled_rows rows)) area r out → Promised r out
    put r out f =
        let g : Fitted (respelled b) area r out = subst (λ (l : List ℕ). Fitted l area r out) file_is f in
        let right : answer r ≡ outcome b (length area) = g.answering ∙ due in
        (right, g.area ∙ ap (area_after (respelled b) area) right)
