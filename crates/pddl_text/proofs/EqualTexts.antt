-- Two accepted tasks without preferences give equal texts exactly when their files are equal.
use mathlib.Core.Path.{◌≡◌, refl, sym, ap, ◌∙◌}
use mathlib.Core.Bool.{Bool, true, false, cond, ◌&&◌, true≢false}
use mathlib.Core.Logic.{◌↔◌}
use mathlib.Core.List.{List, [], ◌∷◌}
use Prim.Native.Nat.{ℕ}
use native.Mathlib.Omega.{arith}
use lib.Dec.{T, eqb, leb}
use lib.ListN.{length, take, drop}
use lib.Seq.{take_at}
use borrow.Author.Tests.{eqb-true}
use Rattle.meaning.specs.Task.{Preference}
use Rattle.task.specs.File.{Sizes, task_of, file_of}
use Rattle.task.specs.Check
use Rattle.task.specs.Check.{Answer, accepted, check}
use Rattle.task.proofs.Bytes.{are_bytes}
use Rattle.task.proofs.Spelled.{accepted_spelling, accepted_file}
use Rattle.pddl_text.specs.Pddl.{domain_text, problem_text}
use Rattle.pddl_text.specs.Outcomes.{Outcome, written, refused, outcome_by, outcome, domain_after, problem_after, outcome_over, domain_over, problem_over}
use Rattle.pddl_text.proofs.InjectiveTexts.{told}

abbrev pub SameTexts : List ℕ → List ℕ → Type 0
SameTexts b c = (domain_text (task_of b) ≡ domain_text (task_of c)) × (problem_text (task_of b) ≡ problem_text (task_of c))

empty : (l : List Preference) → length l ≡ 0 → l ≡ []
empty [] e = refl
empty (q ∷ l) e = absurd (omega arith)

no_preferences : (b : List ℕ) (z : Sizes) → check b ≡ accepted z → z.preferences ≡ 0 → (task_of b).preferences ≡ []
no_preferences b z h n = empty (task_of b).preferences (ap (λ (x : Sizes). x.preferences) (accepted_spelling b z h).sized ∙ n)

pub equal_texts : (b c : List ℕ) → T (are_bytes b) → T (are_bytes c) → (z y : Sizes) → check b ≡ accepted z → check c ≡ accepted y
    → z.preferences ≡ 0 → y.preferences ≡ 0 → SameTexts b c ↔ (b ≡ c)
equal_texts b c tb tc z y hb hc nb nc = (there, λ e. (ap (λ (f : List ℕ). domain_text (task_of f)) e, ap (λ (f : List ℕ). problem_text (task_of f)) e))
  where
    there : SameTexts b c → b ≡ c
    there (d, p) =
        sym (accepted_file b z hb tb)
        ∙ ap file_of (told (task_of b) (task_of c) d p (no_preferences b z hb nb ∙ sym (no_preferences c y hc nc)))
        ∙ accepted_file c y hc tc

-- Over areas: the task in b is written into two

module _ (b domain problem : List ℕ) where
  -- the first d bytes of the one then
  abbrev pub domain_bytes : ℕ → List ℕ
  domain_bytes d = take d (domain_over b domain problem)

  -- and the first p of the other
  abbrev pub problem_bytes : ℕ → List ℕ
  problem_bytes p = take p (problem_over b domain problem)

  -- d and p being the lengths that writing has answered
  record Put (d p : ℕ) : Type 0 where
    pub sizes : Sizes
    pub accepting : check b ≡ accepted sizes
    pub without : sizes.preferences ≡ 0
    pub domain_is : domain_bytes d ≡ domain_text (task_of b)
    pub problem_is : problem_bytes p ≡ problem_text (task_of b)

  module _ (d p : ℕ) (w : outcome_over b domain problem ≡ written d p) where
    by_answer : (a : Answer) → check b ≡ a → outcome_by b (length domain) (length problem) a ≡ written d p → Put d p
    by_answer (Check.refused n i) h e = absurd (true≢false (cc))
    by_answer (Check.accepted z) h e =
        go (eqb z.preferences 0) refl
        (leb (length (domain_text (task_of b))) (length domain) && leb (length (problem_text (task_of b))) (length problem)) e
      where
        go : (x : Bool) → eqb z.preferences 0 ≡ x → (y : Bool)
            → cond x (cond y (written (length (domain_text (task_of b))) (length (problem_text (task_of b)))) (refused 14 0)) (refused 13 0) ≡ written d p
            → Put d p
        go true q true e =
            record {
              sizes = z;
              accepting = h;
              without = eqb-true z.preferences 0 q;
              domain_is = ap (λ (r : Outcome). take d (domain_after (task_of b) domain r)) w ∙ take_at (domain_text (task_of b)) (drop d domain) d (cc);
              problem_is = ap (λ (r : Outcome). take p (problem_after (task_of b) problem r)) w ∙ take_at (problem_text (task_of b)) (drop p problem) p (cc);
            }
        go true q false e = absurd (true≢false (cc))
        go false q y e = absurd (true≢false (cc))

    put : Put d p
    unfolding outcome
    put = by_answer (check b) refl w

-- two tasks that were written, each into two areas: the bytes written are equal exactly when the files are
pub equal_areas : (b c : List ℕ) → T (are_bytes b) → T (are_bytes c) → (domain problem domain' problem' : List ℕ) (d p d' p' : ℕ)
    → outcome_over b domain problem ≡ written d p → outcome_over c domain' problem' ≡ written d' p'
    → ((domain_bytes b domain problem d ≡ domain_bytes c domain' problem' d') × (problem_bytes b domain problem p ≡ problem_bytes c domain' problem' p')) ↔ (b ≡ c)
equal_areas b c tb tc domain problem domain' problem' d p d' p' of_b of_c =
    let x : Put b domain problem d p = put b domain problem d p of_b in
    let y : Put c domain' problem' d' p' = put c domain' problem' d' p' of_c in
    let (there, back) = equal_texts b c tb tc x.sizes y.sizes x.accepting y.accepting x.without y.without in (
      λ same. there (sym x.domain_is ∙ same.0 ∙ y.domain_is, sym x.problem_is ∙ same.1 ∙ y.problem_is),
      λ e. (x.domain_is ∙ (back e).0 ∙ sym y.domain_is, x.problem_is ∙ (back e).1 ∙ sym y.problem_is),
    )
