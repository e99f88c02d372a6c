-- A domain and a problem tell the task.
use mathlib.Core.Path.{◌≡◌, refl, sym, ap, ◌∙◌}
use mathlib.Core.Bool.{Bool, true, false, cond}
use mathlib.Core.List.{List, [], ◌∷◌, ◌++◌, append-nil, head-eq_of_cons-eq, tail-eq_of_cons-eq}
use Prim.Native.Nat.{ℕ, ◌+◌}
use native.Mathlib.Omega.{arith}
use lib.ListN.{length}
use Rattle.lists.proofs.Ranges.{length-range}
use Rattle.lists.specs.Lists.{concat_from, range}
use Rattle.meaning.specs.Task.{Literal, Clause, Condition, Effect, Action, Task}
use Rattle.text.specs.Ascii.{ascii}
use Rattle.text.specs.Text.{decimal}
use Rattle.pddl_parts.specs.Pddl.{spaced, fact_text, not_text, literal_text, clause_text, condition_text, effect_text, action_line}
use Rattle.pddl_text.specs.Pddl.{domain_text, problem_text}
use Rattle.pddl_text.proofs.Injective.{Tells, word_before, word_after, both, regroup, number_then, number_tells, list_then, list_tells}

-- Conditions

fact_tells : Tells fact_text
fact_tells = word_before (λ (n : ℕ). decimal n ++ ascii ")") (number_tells 41 refl []) (ascii "(f")

not_tells : Tells not_text
not_tells = word_before (λ (n : ℕ). fact_text n ++ ascii ")") (word_after fact_text fact_tells (ascii ")")) (ascii "(not ")

literal_tells : Tells literal_text
literal_tells l m xs ys e = go l.holds m.holds l.fact m.fact e
  where
    go : (h g : Bool) (n k : ℕ) → cond h (fact_text n) (not_text n) ++ xs ≡ cond g (fact_text k) (not_text k) ++ ys
        → (◌≡◌ {A = Literal} (record { holds = h; fact = n }) (record { holds = g; fact = k })) × (xs ≡ ys)
    go true true n k e = let (p, q) = fact_tells n k xs ys e in (λ i. record { holds = true; fact = p i }, q)
    go false false n k e = let (p, q) = not_tells n k xs ys e in (λ i. record { holds = false; fact = p i }, q)
    go true false n k e = absurd (omega (arith, head-eq_of_cons-eq (tail-eq_of_cons-eq e)))
    go false true n k e = absurd (omega (arith, head-eq_of_cons-eq (tail-eq_of_cons-eq e)))

abbrev or_text : Clause → List ℕ
or_text c = ascii "(or" ++ (spaced literal_text c ++ ascii ")")

or_tells : Tells or_text
or_tells = word_before (λ (c : Clause). spaced literal_text c ++ ascii ")") (list_tells literal_text literal_tells 41 (λ e. omega arith) []) (ascii "(or")

-- no literal begins as an `or` does
not-or : (l : Literal) (c : Clause) (xs ys : List ℕ) → literal_text l ++ xs ≡ or_text c ++ ys → ⊥
not-or l c xs ys e = go l.holds e
  where
    go : (h : Bool) → cond h (fact_text l.fact) (not_text l.fact) ++ xs ≡ or_text c ++ ys → ⊥
    go true e = omega (arith, head-eq_of_cons-eq (tail-eq_of_cons-eq e))
    go false e = omega (arith, head-eq_of_cons-eq (tail-eq_of_cons-eq e))

clause_tells : Tells clause_text
clause_tells [] [] xs ys e = or_tells [] [] xs ys e
clause_tells [] (m ∷ []) xs ys e = absurd (not-or m [] ys xs (sym e))
clause_tells [] (m ∷ n ∷ d) xs ys e = or_tells [] (m ∷ n ∷ d) xs ys e
clause_tells (l ∷ []) [] xs ys e = absurd (not-or l [] xs ys e)
clause_tells (l ∷ []) (m ∷ []) xs ys e = let (p, q) = literal_tells l m xs ys e in (ap (λ (x : Literal). x ∷ []) p, q)
clause_tells (l ∷ []) (m ∷ n ∷ d) xs ys e = absurd (not-or l (m ∷ n ∷ d) xs ys e)
clause_tells (l ∷ k ∷ c) [] xs ys e = or_tells (l ∷ k ∷ c) [] xs ys e
clause_tells (l ∷ k ∷ c) (m ∷ []) xs ys e = absurd (not-or m (l ∷ k ∷ c) ys xs (sym e))
clause_tells (l ∷ k ∷ c) (m ∷ n ∷ d) xs ys e = or_tells (l ∷ k ∷ c) (m ∷ n ∷ d) xs ys e

condition_tells : Tells condition_text
condition_tells = word_before (λ (c : Condition). spaced clause_text c ++ ascii ")") (list_tells clause_text clause_tells 41 (λ e. omega arith) []) (ascii "(and")

-- Effects

-- what is added, and after it what is deleted
changes_tell : (a b d c : List ℕ) (xs ys : List ℕ)
    → (spaced fact_text a ++ (spaced not_text d ++ ascii ")")) ++ xs ≡ (spaced fact_text b ++ (spaced not_text c ++ ascii ")")) ++ ys
    → (a ≡ b) × (d ≡ c) × (xs ≡ ys)
changes_tell [] [] d c xs ys e =
    let (p, q) = list_tells not_text not_tells 41 (λ e. omega arith) [] d c xs ys e in (refl, p, q)
changes_tell [] (m ∷ b) [] c xs ys e = absurd (omega (arith, head-eq_of_cons-eq e))
changes_tell [] (m ∷ b) (k ∷ d) c xs ys e = absurd (omega (arith, head-eq_of_cons-eq (tail-eq_of_cons-eq (tail-eq_of_cons-eq e))))
changes_tell (n ∷ a) [] d [] xs ys e = absurd (omega (arith, head-eq_of_cons-eq e))
changes_tell (n ∷ a) [] d (k ∷ c) xs ys e = absurd (omega (arith, head-eq_of_cons-eq (tail-eq_of_cons-eq (tail-eq_of_cons-eq e))))
changes_tell (n ∷ a) (m ∷ b) d c xs ys e =
    let rest : List ℕ = spaced not_text d ++ ascii ")" in
    let rest' : List ℕ = spaced not_text c ++ ascii ")" in
    let (p, q) = fact_tells n m ((spaced fact_text a ++ rest) ++ xs) ((spaced fact_text b ++ rest') ++ ys)
    (regroup (fact_text n) (spaced fact_text a) rest xs ∙ tail-eq_of_cons-eq e ∙ sym (regroup (fact_text m) (spaced fact_text b) rest' ys)) in
    let (r, s, t) = changes_tell a b d c xs ys q in
    (λ i. p i ∷ r i, s, t)

abbrev Changes : Type 0
Changes = List ℕ × List ℕ

abbrev changes_of : Changes → List ℕ
changes_of p = ascii "(and" ++ (spaced fact_text p.0 ++ (spaced not_text p.1 ++ ascii ")"))

changes_tells : Tells changes_of
changes_tells = word_before (λ (p : Changes). spaced fact_text p.0 ++ (spaced not_text p.1 ++ ascii ")")) inner (ascii "(and")
  where
    inner : Tells (λ (p : Changes). spaced fact_text p.0 ++ (spaced not_text p.1 ++ ascii ")"))
    inner (a, d) (b, c) xs ys e = let (p, q, r) = changes_tell a b d c xs ys e in (λ i. (p i, q i), r)

abbrev after_condition : Changes → List ℕ
after_condition p = ascii " " ++ (changes_of p ++ ascii ")")

after_tells : Tells after_condition
after_tells = word_before (λ (p : Changes). changes_of p ++ ascii ")") (word_after changes_of changes_tells (ascii ")")) (ascii " ")

effect_tells : Tells effect_text
effect_tells f g xs ys e =
    let (p, q) = word_before (λ (p : Condition × Changes). condition_text p.0 ++ after_condition p.1)
    (both condition_text after_condition condition_tells after_tells) (ascii "(when ") (f.condition, (f.adds, f.deletes)) (g.condition, (g.adds, g.deletes)) xs ys e in
    (λ i. record { condition = (p i).0; adds = (p i).1.0; deletes = (p i).1.1 }, q)

-- Actions

abbrev Costs : Type 0
Costs = ℕ × List Effect

abbrev cost_text : Costs → List ℕ
cost_text p = decimal p.0 ++ (41 ∷ (spaced effect_text p.1 ++ ascii "))\n"))

cost_tells : Tells cost_text
cost_tells = number_then 41 refl (λ (es : List Effect). spaced effect_text es ++ ascii "))\n") (list_tells effect_text effect_tells 41 (λ e. omega arith) (ascii ")\n"))

abbrev after_precondition : Costs → List ℕ
after_precondition p = ascii " :effect (and (increase (total-cost) " ++ cost_text p

action_tells : (k : ℕ) → Tells (action_line k)
action_tells k f g xs ys e =
    let inner : Tells (λ (p : Condition × Costs). condition_text p.0 ++ after_precondition p.1) =
    both condition_text after_precondition condition_tells (word_before cost_text cost_tells (ascii " :effect (and (increase (total-cost) ")) in
    let named : Tells (λ (p : Condition × Costs). ascii "(:action a" ++ (decimal k ++ (ascii " :parameters () :precondition " ++ (condition_text p.0 ++ after_precondition p.1)))) =
    word_before (λ (p : Condition × Costs). decimal k ++ (ascii " :parameters () :precondition " ++ (condition_text p.0 ++ after_precondition p.1)))
    (word_before (λ (p : Condition × Costs). ascii " :parameters () :precondition " ++ (condition_text p.0 ++ after_precondition p.1))
    (word_before (λ (p : Condition × Costs). condition_text p.0 ++ after_precondition p.1) inner (ascii " :parameters () :precondition ")) (decimal k))
    (ascii "(:action a") in
    let (p, q) = named (f.precondition, (f.cost, f.effects)) (g.precondition, (g.cost, g.effects)) xs ys e in
    (λ i. record { cost = (p i).1.0; precondition = (p i).0; effects = (p i).1.1 }, q)

-- lines, which a closing bracket ends
lines_tell : (k : ℕ) → Tells (λ (l : List Action). concat_from action_line k l ++ ascii ")\n")
lines_tell k [] [] xs ys e = (refl, tail-eq_of_cons-eq (tail-eq_of_cons-eq e))
lines_tell k [] (b ∷ m) xs ys e = absurd (omega (arith, head-eq_of_cons-eq e))
lines_tell k (a ∷ l) [] xs ys e = absurd (omega (arith, head-eq_of_cons-eq e))
lines_tell k (a ∷ l) (b ∷ m) xs ys e =
    let (p, q) = action_tells k a b ((concat_from action_line (k + 1) l ++ ascii ")\n") ++ xs) ((concat_from action_line (k + 1) m ++ ascii ")\n") ++ ys)
    (regroup (action_line k a) (concat_from action_line (k + 1) l) (ascii ")\n") xs ∙ e ∙ sym (regroup (action_line k b) (concat_from action_line (k + 1) m) (ascii ")\n") ys)) in
    let (r, s) = lines_tell (k + 1) l m xs ys q in
    (λ i. p i ∷ r i, s)

-- The two texts

abbrev domain_of : List ℕ × List Action → List ℕ
domain_of p =
    ascii "(define (domain d)\n(:requirements :negative-preconditions :disjunctive-preconditions :conditional-effects :action-costs)\n(:predicates"
    ++ (spaced fact_text p.0 ++ (41 ∷ (ascii "\n(:functions (total-cost))\n" ++ (concat_from action_line 0 p.1 ++ ascii ")\n"))))

domain_tells : Tells domain_of
domain_tells =
    word_before (λ (p : List ℕ × List Action). spaced fact_text p.0 ++ (41 ∷ (ascii "\n(:functions (total-cost))\n" ++ (concat_from action_line 0 p.1 ++ ascii ")\n"))))
    (list_then fact_text fact_tells 41 (λ e. omega arith) (λ (l : List Action). ascii "\n(:functions (total-cost))\n" ++ (concat_from action_line 0 l ++ ascii ")\n"))
    (word_before (λ (l : List Action). concat_from action_line 0 l ++ ascii ")\n") (lines_tell 0) (ascii "\n(:functions (total-cost))\n")))
    (ascii "(define (domain d)\n(:requirements :negative-preconditions :disjunctive-preconditions :conditional-effects :action-costs)\n(:predicates")

abbrev problem_of : List ℕ × Condition → List ℕ
problem_of p =
    ascii "(define (problem p) (:domain d)\n(:init (= (total-cost) 0)"
    ++ (spaced fact_text p.0 ++ (41 ∷ (ascii "\n(:goal " ++ (condition_text p.1 ++ ascii ")\n(:metric minimize (total-cost)))\n"))))

problem_tells : Tells problem_of
problem_tells =
    word_before (λ (p : List ℕ × Condition). spaced fact_text p.0 ++ (41 ∷ (ascii "\n(:goal " ++ (condition_text p.1 ++ ascii ")\n(:metric minimize (total-cost)))\n"))))
    (list_then fact_text fact_tells 41 (λ e. omega arith) (λ (c : Condition). ascii "\n(:goal " ++ (condition_text c ++ ascii ")\n(:metric minimize (total-cost)))\n"))
    (word_before (λ (c : Condition). condition_text c ++ ascii ")\n(:metric minimize (total-cost)))\n")
    (word_after condition_text condition_tells (ascii ")\n(:metric minimize (total-cost)))\n")) (ascii "\n(:goal ")))
    (ascii "(define (problem p) (:domain d)\n(:init (= (total-cost) 0)")

-- with no text after it
alone : {A : Type 0} (f : A → List ℕ) → Tells f → (a b : A) → f a ≡ f b → a ≡ b
alone f tells a b e = (tells a b [] [] (append-nil (f a) ∙ e ∙ sym (append-nil (f b)))).0

pub told : (t u : Task) → domain_text t ≡ domain_text u → problem_text t ≡ problem_text u → t.preferences ≡ u.preferences → t ≡ u
unfolding domain_text problem_text
told t u d p prefs =
    let from_domain : ◌≡◌ {A = List ℕ × List Action} (range 0 t.facts, t.actions) (range 0 u.facts, u.actions) =
    alone domain_of domain_tells (range 0 t.facts, t.actions) (range 0 u.facts, u.actions) d in
    let from_problem : ◌≡◌ {A = List ℕ × Condition} (t.start, t.goal) (u.start, u.goal) =
    alone problem_of problem_tells (t.start, t.goal) (u.start, u.goal) p in
    let facts : t.facts ≡ u.facts =
    sym (length-range 0 t.facts) ∙ ap (λ (q : List ℕ × List Action). length q.0) from_domain ∙ length-range 0 u.facts in
    λ i. record { facts = facts i; start = (from_problem i).0; goal = (from_problem i).1; actions = (from_domain i).1; preferences = prefs i }
