-- Both texts in their areas, or a refusal.
use mathlib.Core.Path.{◌≡◌, refl, sym, ap, ◌∙◌}
use mathlib.Core.Bool.{Bool, true, false, not}
use mathlib.Core.List.{List, ◌++◌}
use Prim.Native.Nat.{ℕ, ◌≤◌}
use lib.Dec.{leb}
use lib.ListN.{length, drop}
use borrow.Author.Tests.{leb-true, le-leb, eq-eqb, ne_eqb, not-true, not-false}
use Rattle.meaning.specs.Task.{Task}
use Rattle.task.specs.File
use Rattle.task.specs.File.{task_of, marks_of, values_of}
use Rattle.task.specs.Check
use Rattle.task.specs.Check.{check}
use Rattle.std.specs.Prelude.{Result, Ok, Err}
use Rattle.task.specs.Answers.{answer as checked, as_sizes, number_of}
use Rattle.task.specs.declared.Sizes.{Sizes}
use Rattle.task.specs.declared.Refusal.{Refusal}
use Rattle.lists.proofs.Tests.{both_true}
use Rattle.task.proofs.Spelled.{accepted_spelling}
use Rattle.task.proofs.Answered.{parts_spell}
use Rattle.text.specs.Area.{Filled}
use Rattle.text.proofs.Writing.{written_whole}
use Rattle.pddl_text.specs.Pddl.{domain_text, problem_text}
use Rattle.pddl_text.specs.Writing.{SpelledShort, OfTask}
use Rattle.pddl_text.specs.Outcomes.{Outcome, written, refused, both_fit, fitted, outcome_by, outcome, domain_after, problem_after, outcome_over, domain_over, problem_over}
use Rattle.pddl_text.specs.Answers.{answer, DomainPut, ProblemPut, TextsAnswer, DomainLeft, ProblemLeft}
use Rattle.pddl_text.specs.declared.Lengths.{Lengths}
use Rattle.pddl_text.proofs.Longest.{longest}

-- Whether both fit

-- a text that fits stands at the front of its area
at_front : {xs b out : List ℕ} {n : ℕ} → Filled b xs n out → length xs ≤ length b → out ≡ xs ++ drop n b
at_front {xs} {b} f h = f.area ∙ written_whole xs b h ∙ ap (λ (k : ℕ). xs ++ drop k b) (sym f.size)

module _ (t : Task) (domain problem : List ℕ) where
  pub too_short : {fit : Bool} → fit ≡ both_fit t (length domain) (length problem) → not fit ≡ true → refused 14 0 ≡ fitted t (length domain) (length problem)
  too_short {fit} same h = rw (sym same ∙ not-true fit h) refl

  -- as it was counted
  pub counted_fit : {fit : Bool} → fit ≡ both_fit t (length domain) (length problem) → not fit ≡ false
      → (length (domain_text t) ≤ length domain) × (length (problem_text t) ≤ length problem)
  counted_fit {fit} same h =
      let (d, p) = both_true (leb (length (domain_text t)) (length domain)) (leb (length (problem_text t)) (length problem)) (sym same ∙ not-false fit h) in
      (leb-true (length (domain_text t)) (length domain) d, leb-true (length (problem_text t)) (length problem) p)

-- both texts were written, and both fit: the answer, and the two areas
module _ (facts : ℕ) (ms vs domain problem : List ℕ) (n : Lengths) {domain' problem' : List ℕ}
    (d : OfTask facts ms vs (DomainPut domain n domain')) (p : OfTask facts ms vs (ProblemPut problem n problem'))
    (fit : OfTask facts ms vs (λ (t : Task). (length (domain_text t) ≤ length domain) × (length (problem_text t) ≤ length problem))) where
  pub put_down : OfTask facts ms vs (λ (t : Task). written n.domain n.problem ≡ fitted t (length domain) (length problem))
      × (OfTask facts ms vs (λ (t : Task). domain' ≡ domain_text t ++ drop n.domain domain)
      × OfTask facts ms vs (λ (t : Task). problem' ≡ problem_text t ++ drop n.problem problem))
  put_down = (
    λ t same rows.
        let (h, k) = fit t same rows in
        rw (le-leb (length (domain_text t)) (length domain) h, le-leb (length (problem_text t)) (length problem) k) (λ i. written ((d t same rows).size i) ((p t same rows).size i)),
    (λ t same rows. at_front (d t same rows) (fit t same rows).0, λ t same rows. at_front (p t same rows) (fit t same rows).1),
  )

-- From what check answers

module _ (b domain problem : List ℕ) where
  -- what is due: the answer, and the two areas
  abbrev pub Due : Outcome → List ℕ → List ℕ → Type 0
  Due o domain' problem' = (o ≡ outcome_over b domain problem) × ((domain' ≡ domain_over b domain problem) × (problem' ≡ problem_over b domain problem))

  by_outcome : (o : Outcome) → o ≡ outcome_over b domain problem → {domain' problem' : List ℕ}
      → domain' ≡ domain_after (task_of b) domain o → problem' ≡ problem_after (task_of b) problem o → Due o domain' problem'
  by_outcome o h d p = (h, (d ∙ ap (domain_after (task_of b) domain) h, p ∙ ap (problem_after (task_of b) problem) h))

  pub turned_down : {x : Result Sizes Refusal} {f : Refusal} → x ≡ Err f → checked x ≡ check b → Due (refused (number_of f.cause) f.place) domain problem
  unfolding outcome
  turned_down {x} {f} q e =
      by_outcome (refused (number_of f.cause) f.place)
      (ap (outcome_by b (length domain) (length problem)) (sym (ap checked q) ∙ e))
      refl refl

module _ (b : List ℕ) {x : Result Sizes Refusal} {z : Sizes} (q : x ≡ Ok z) (e : checked x ≡ check b) where
  accepted : check b ≡ Check.accepted (as_sizes z)
  accepted = sym e ∙ ap checked q

  facts : z.facts ≡ (task_of b).facts
  facts = ap (λ (y : File.Sizes). y.facts) (sym (accepted_spelling b (as_sizes z) accepted).sized)

  pub spelled : SpelledShort z.facts (marks_of b z.rows) (values_of b z.rows)
  spelled = (task_of b, facts, parts_spell b (as_sizes z) accepted, ((longest b (as_sizes z) accepted).0, (longest b (as_sizes z) accepted).1))

  module _ (domain problem : List ℕ) where
    on_task : outcome_by b (length domain) (length problem) (Check.accepted (as_sizes z)) ≡ outcome_over b domain problem
    unfolding outcome
    on_task = ap (outcome_by b (length domain) (length problem)) (sym accepted)

    pub has_preferences : (z.preferences ≡ 0 → ⊥) → Due b domain problem (refused 13 0) domain problem
    has_preferences h = by_outcome b domain problem (refused 13 0) (rw (ne_eqb z.preferences 0 h) at on_task) refl refl

    pub texts_put : z.preferences ≡ 0 → (r : Result Lengths Refusal) {domain' problem' : List ℕ}
        → OfTask z.facts (marks_of b z.rows) (values_of b z.rows) (TextsAnswer domain problem r)
        → OfTask z.facts (marks_of b z.rows) (values_of b z.rows) (DomainLeft domain r domain')
        → OfTask z.facts (marks_of b z.rows) (values_of b z.rows) (ProblemLeft problem r problem')
        → Due b domain problem (answer r) domain' problem'
    texts_put h r fits d p =
        let same : fitted (task_of b) (length domain) (length problem) ≡ outcome_over b domain problem = rw (eq-eqb z.preferences 0 h) at on_task in
        let rows = parts_spell b (as_sizes z) accepted in
        by_outcome b domain problem (answer r) (fits (task_of b) facts rows ∙ same) (d (task_of b) facts rows) (p (task_of b) facts rows)
