-- The domain and the problem, from what was written of their parts.
use mathlib.Core.Path.{◌≡◌, refl, sym, ap, ◌∙◌, subst}
use mathlib.Core.List.{List, [], ◌∷◌, ◌++◌, map, append-nil}
use Prim.Native.Nat.{ℕ, zero, suc, ◌+◌, ◌≤◌}
use native.Mathlib.Nat.{add-zero}
use native.Mathlib.Numerals.{add-one}
use native.Mathlib.Omega.{arith}
use lib.ListN.{length, drop, length-append, length-map}
use Rattle.lists.specs.Lists.{concat_map, range}
use Rattle.task.specs.Marks.{START}
use Rattle.meaning.specs.Task.{Task}
use Rattle.task.specs.TaskRows.{Row, row, condition_rows, preference_rows, task_rows}
use Rattle.task.specs.File.{paired}
use Rattle.task.specs.Rows.{between, Stops}
use Rattle.lists.proofs.Tests.{all_map, concat-append}
use Rattle.task.proofs.Bytes.{length-paired}
use Rattle.task.proofs.Reading.{passes}
use Rattle.task.proofs.RoundTrip.{from_goal, task_grouped}
use Rattle.task.proofs.Positions.{drop_after, past_kinds, tail_rows, preferences_stop, tail_stops, goal_after}
use Rattle.text.specs.Ascii.{ascii}
use Rattle.text.specs.Area.{Wrote}
use Rattle.text.proofs.Writing.{then, from_start}
use Rattle.pddl_parts.specs.Pddl.{spaced, fact_text}
use Rattle.pddl_parts.specs.Rows.{Listed, list_at, ended_at}
use Rattle.pddl_parts.specs.Pieces.{condition, actions}
use Rattle.pddl_parts.specs.Writing.{Stretch, stretch, Spells, PieceAnswer}
use Rattle.pddl_parts.specs.declared.conditions.Emitted.{Emitted}
use Rattle.pddl_parts.proofs.Listing.{each_text, lists}
use Rattle.pddl_text.specs.Pddl.{domain_text, problem_text}
use Rattle.pddl_text.specs.Writing.{ActionsOver, ProblemAnswer, DomainAnswer}

-- Facts, one after the other

range_snoc : (k n : ℕ) → range k (suc n) ≡ range k n ++ ((k + n) ∷ [])
range_snoc k zero = ap (λ (m : ℕ). m ∷ []) (sym (add-zero k))
range_snoc k (suc n) =
    let e : k + 1 + n ≡ k + suc n = omega arith in
    ap (λ (l : List ℕ). k ∷ l) (range_snoc (k + 1) n ∙ ap (λ (m : ℕ). range (k + 1) n ++ (m ∷ [])) e)

pub fact_more : (i : ℕ) {b mid mid' out : List ℕ} {at j l k : ℕ} → Wrote b at (spaced fact_text (range 0 i)) j mid
    → Wrote mid j (ascii " ") l mid' → Wrote mid' l (fact_text i) k out → Wrote b at (spaced fact_text (range 0 (i + 1))) k out
fact_more i {b} {mid} {mid'} {out} {at} {j} {l} {k} v s f =
    let e : 0 + i ≡ i = omega arith in
    let text : spaced fact_text (range 0 i) ++ (ascii " " ++ fact_text i) ≡ spaced fact_text (range 0 (i + 1)) =
    ap (λ (t : List ℕ). spaced fact_text (range 0 i) ++ t) (sym (append-nil (ascii " " ++ fact_text i)))
    ∙ sym (concat-append (λ (n : ℕ). ascii " " ++ fact_text n) (range 0 i) (i ∷ []))
    ∙ ap (λ (m : ℕ). spaced fact_text (range 0 i ++ (m ∷ []))) (sym e)
    ∙ ap (spaced fact_text) (sym (range_snoc 0 i))
    ∙ ap (λ (m : ℕ). spaced fact_text (range 0 m)) (sym (add-one i)) in
    subst (λ (t : List ℕ). Wrote b at t k out) text (then v (then s f))

-- The problem

module _ (ms vs : List ℕ) (t : Task) (spelled : paired ms vs ≡ task_rows t) where
  starts_listed : list_at 9 9 ms vs 0 ≡ ended_at (spaced fact_text t.start) (0 + length (map (row START) t.start))
  starts_listed =
      lists 9 9 ms vs 0 (map (row START) t.start) (from_goal t) (spelled ∙ task_grouped t) (all_map (passes (between 9 9)) (row START) (λ n. tt) t.start) refl
      ∙ ap (λ (x : List ℕ). ended_at x (0 + length (map (row START) t.start))) (each_text (row START) fact_text (λ n. refl) t.start)

  starts_end : (list_at 9 9 ms vs 0).next ≡ length t.start
  starts_end = let n = length-map t.start (row START) in ap (λ (l : Listed). l.next) starts_listed ∙ omega (arith, n)

  pub goal_within : (i : ℕ) → i ≡ (list_at 9 9 ms vs 0).next → i + 1 ≤ length ms
  goal_within i e =
      omega (arith, e ∙ starts_end, sym (length-paired ms vs) ∙ ap length (spelled ∙ task_grouped t), length-append (map (row START) t.start) (from_goal t), length-map t.start (row START))

  from_goal_lem : (i : ℕ) → i ≡ (list_at 9 9 ms vs 0).next → drop (i + 1) (paired ms vs) ≡ condition_rows t.goal ++ tail_rows t.actions t.preferences
  from_goal_lem i e = (λ z. drop ((e ∙ starts_end) z + 1) (spelled z)) ∙ goal_after t

  past_goal : Stops (between 3 5) (tail_rows t.actions t.preferences)
  past_goal = tail_stops (between 3 5) (past_kinds (between 3 5) tt) refl t.actions t.preferences

  pub its_goal : (i : ℕ) → i ≡ (list_at 9 9 ms vs 0).next → Spells condition (stretch ms vs (i + 1))
  its_goal i e = (t.goal, tail_rows t.actions t.preferences, from_goal_lem i e, past_goal)

module _ (ms vs : List ℕ) {b o₁ o₂ o₃ o₄ o₅ : List ℕ} {k₁ k₃ k₅ : ℕ} (s : Emitted) {c : Emitted}
    (w₁ : Wrote b 0 (ascii "(define (problem p) (:domain d)\n(:init (= (total-cost) 0)") k₁ o₁)
    (w₂ : Wrote o₁ k₁ (list_at 9 9 ms vs 0).text s.at o₂)
    (read : s.next ≡ (list_at 9 9 ms vs 0).next)
    (w₃ : Wrote o₂ s.at (ascii ")\n(:goal ") k₃ o₃)
    (goal : PieceAnswer condition (stretch ms vs (s.next + 1)) o₃ k₃ c o₄)
    (w₅ : Wrote o₄ c.at (ascii ")\n(:metric minimize (total-cost)))\n") k₅ o₅) where
  pub problem_put : ProblemAnswer ms vs b (record { at = k₅; next = c.next }) o₅
  unfolding problem_text
  problem_put t spelled =
      let tail : List Row = tail_rows t.actions t.preferences in
      let here : drop (s.next + 1) (paired ms vs) ≡ condition_rows t.goal ++ tail = from_goal_lem ms vs t spelled s.next read in
      let (w₄, after) = goal.puts t.goal tail here (past_goal ms vs t spelled) in
      let starts : Wrote o₁ k₁ (spaced fact_text t.start) s.at o₂ =
      subst (λ (l : Listed). Wrote o₁ k₁ l.text s.at o₂) (starts_listed ms vs t spelled) w₂ in (
        from_start (then w₁ (then starts (then w₃ (then w₄ w₅)))),
        ap (λ (i : ℕ). drop i (paired ms vs)) after ∙ drop_after (s.next + 1) (paired ms vs) (condition_rows t.goal) tail here,
      )

-- The domain

past_actions : (t : Task) → Stops (between 1 7) (concat_map preference_rows t.preferences)
past_actions t = preferences_stop (between 1 7) (past_kinds (between 1 7) tt) t.preferences

pub its_actions : (facts : ℕ) (s : Stretch) → ActionsOver facts s → Spells actions s
its_actions facts s (t, same, rows) = (t.actions, concat_map preference_rows t.preferences, rows, past_actions t)

module _ (facts : ℕ) {from : Stretch} {b o₁ o₂ o₃ o₄ o₅ : List ℕ} {k₁ k₂ k₃ k₅ : ℕ} {s : Emitted}
    (w₁ : Wrote b 0 (ascii "(define (domain d)\n(:requirements :negative-preconditions :disjunctive-preconditions :conditional-effects :action-costs)\n(:predicates") k₁ o₁)
    (w₂ : Wrote o₁ k₁ (spaced fact_text (range 0 facts)) k₂ o₂)
    (w₃ : Wrote o₂ k₂ (ascii ")\n(:functions (total-cost))\n") k₃ o₃)
    (lines : PieceAnswer actions from o₃ k₃ s o₄)
    (w₅ : Wrote o₄ s.at (ascii ")\n") k₅ o₅) where
  pub domain_put : DomainAnswer facts from b k₅ o₅
  unfolding domain_text
  domain_put t same rows =
      let (w₄, after) = lines.puts t.actions (concat_map preference_rows t.preferences) rows (past_actions t) in
      from_start (then w₁ (then (subst (λ (F : ℕ). Wrote o₁ k₁ (spaced fact_text (range 0 F)) k₂ o₂) same w₂) (then w₃ (then w₄ w₅))))
