-- A search of the task in a file, from what check answers.
use mathlib.Core.Path.{◌≡◌, refl, sym, ap, ◌∙◌, subst}
use mathlib.Core.Bool.{true, false, true≢false}
use mathlib.Core.List.{List}
use Prim.Native.Nat.{ℕ, ◌≤◌}
use native.Mathlib.Omega.{arith}
use lib.ListN.{length}
use lib.Seq.{length-take-le}
use borrow.Author.Tests.{eq-eqb, ne_eqb}
use Rattle.task.specs.File
use Rattle.task.specs.File.{task_of, marks_of, values_of}
use Rattle.task.specs.Check
use Rattle.task.specs.Check.{check}
use Rattle.std.specs.Prelude.{Result, Ok, Err}
use Rattle.task.specs.Answers.{number_of, answer as checked, as_sizes}
use Rattle.task.specs.declared.Sizes.{Sizes}
use Rattle.task.specs.declared.Refusal.{Refusal}
use Rattle.task.proofs.Spelled.{Spelling, accepted_spelling}
use Rattle.task.proofs.Checking.{within}
use Rattle.task.proofs.Answered.{passed_on}
use Rattle.task.proofs.Causes.{cause_back}
use Rattle.layout.specs.Actions.{actions_from}
use Rattle.layout.proofs.Parts.{parts_spelled}
use Rattle.layout.proofs.ActionRows.{as_many}
use Rattle.node_words.proofs.Lists.{nodes_length}
use Rattle.searching.specs.Search
use Rattle.searching.specs.Search.{Node, explore}
use Rattle.searched.specs.Searched
use Rattle.searched.specs.Searched.{Searched, answer_by, searched, refusal, limit_allowed, search_by, search_file}
use Rattle.finding.specs.Finding.{as_searched, as_sought, plan_after, Bounded, Kept}
use Rattle.finding.specs.declared.Sought.{Sought}
use Rattle.finding.specs.declared.Sought.TheVariants.{Found, NoPlan, Full}

-- what the contract of `find` says
abbrev pub Answers : Searched → Result Sought Refusal → List ℕ → List ℕ → List ℕ → List ℕ → Type 0
Answers S r plan plan2 words words2 =
    (as_searched plan2 words2 r ≡ S) × ((r ≡ as_sought S) × ((plan2 ≡ plan_after S.answer plan) × (Bounded r × Kept r words words2)))

-- what an answer stands for has no other answer, where the plan stands in its area
sought_is : (plan words : List ℕ) (r : Result Sought Refusal) → length plan ≡ 1023 → Bounded r → r ≡ as_sought (as_searched plan words r)
sought_is plan words (Ok (Found f n)) long few =
    λ z. Ok (Found (record { steps = sym (length-take-le f.steps plan (omega (arith, long, few.0))) z; cost = f.cost }) (sym (nodes_length words n) z))
sought_is plan words (Ok (NoPlan n)) long few = λ z. Ok (NoPlan (sym (nodes_length words n) z))
sought_is plan words (Ok (Full n)) long few = λ z. Ok (Full (sym (nodes_length words n) z))
sought_is plan words (Err f) long few = λ z. Err (record { cause = sym (cause_back f.cause) z; place = f.place })

-- a refusal, before anything was written
pub refused_answers : (S : Searched) (f : Refusal) (r : Result Sought Refusal) → r ≡ Err f → refusal (number_of f.cause) f.place ≡ S → (plan words : List ℕ)
    → Answers S r plan plan words words
refused_answers S f r e q plan words =
    subst (λ (x : Result Sought Refusal). Answers S x plan plan words words) (sym e)
    (q, ((λ z. Err (record { cause = sym (cause_back f.cause) z; place = f.place })) ∙ ap as_sought q, (ap (λ (T : Searched). plan_after T.answer plan) q, (tt, refl))))

-- a search that was made answers no refusal
not-refused : (o : Search.Outcome) (ns : List Node) (n i : ℕ) → Searched.refused n i ≡ answer_by o ns → ⊥
not-refused (Search.found j) ns n i e = true≢false (cc e)
not-refused Search.no_plan ns n i e = true≢false (cc e)
not-refused Search.full ns n i e = true≢false (cc e)

made_kept : (a : Search.Answer) (r : Result Sought Refusal) (plan words before after : List ℕ) → as_searched plan words r ≡ searched a → Kept r before after
made_kept a (Ok s) plan words before after e = tt
made_kept a (Err f) plan words before after e =
    absurd (not-refused a.outcome a.nodes (number_of f.cause) f.place (ap (λ (T : Searched). T.answer) e))

pub made_answers : (S : Searched) (a : Search.Answer) (r : Result Sought Refusal) (plan plan2 words words2 : List ℕ) → searched a ≡ S → length plan2 ≡ 1023 → Bounded r
    → (as_searched plan2 words2 r ≡ searched a) × (plan2 ≡ plan_after (searched a).answer plan) → Answers S r plan plan2 words words2
made_answers S a r plan plan2 words words2 q long few (says, holds) =
    (says ∙ q, (sought_is plan2 words2 r long few ∙ ap as_sought (says ∙ q), (holds ∙ ap (λ (T : Searched). plan_after T.answer plan) q, (few, made_kept a r plan2 words2 words words2 says))))

-- What check answered

module _ (b : List ℕ) (limit room : ℕ) (x : Result Sizes Refusal) (e : checked x ≡ check b) where
  pub turned_down : (f : Refusal) → x ≡ Err f → refusal (number_of f.cause) f.place ≡ search_file b limit room
  unfolding search_file
  turned_down = passed_on (search_by b limit room) b x e

  module _ (z : Sizes) (q : x ≡ Ok z) where
    pub accepted : check b ≡ Check.accepted (as_sizes z)
    accepted = sym e ∙ ap checked q

    on_task : search_by b limit room (Check.accepted (as_sizes z)) ≡ search_file b limit room
    unfolding search_file
    on_task = ap (search_by b limit room) (sym accepted)

    pub preferred : (z.preferences ≡ 0 → ⊥) → refusal 13 0 ≡ search_file b limit room
    preferred h = (rw (ne_eqb z.preferences 0 h) at on_task)

    module _ (none : z.preferences ≡ 0) where
      pub limited : limit_allowed limit room ≡ false → refusal 16 0 ≡ search_file b limit room
      limited l = (rw (eq-eqb z.preferences 0 none, l) at on_task)

      pub searches : limit_allowed limit room ≡ true → searched (explore (task_of b) limit) ≡ search_file b limit room
      searches l = (rw (eq-eqb z.preferences 0 none, l) at on_task)

    pub few_actions : length (actions_from 0 (marks_of b z.rows)) ≤ 128
    few_actions =
        let s : Spelling b (as_sizes z) = accepted_spelling b (as_sizes z) accepted in
        let limits = within (as_sizes z) s.allowed in
        let many : length (actions_from 0 (marks_of b z.rows)) ≡ z.actions =
        as_many (task_of b) (marks_of b z.rows) (values_of b z.rows) (parts_spelled b (as_sizes z) accepted)
        ∙ ap (λ (y : File.Sizes). y.actions) s.sized in
        omega (arith, limits, many)
