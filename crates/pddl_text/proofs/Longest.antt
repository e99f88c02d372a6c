-- No domain and no problem of an accepted task is longer than 262,144 bytes: a row adds at most 19, ` (when (and) (and))`,
-- and an action's line 80 more.
use mathlib.Core.Path.{◌≡◌, refl, ap}
use mathlib.Core.Bool.{Bool, true, false, cond, true≢false}
use mathlib.Core.List.{List, [], ◌∷◌, ◌++◌, map}
use Prim.Native.Nat.{ℕ, zero, suc, ◌+◌, ◌*◌, ◌≤◌, ◌<◌}
use native.Mathlib.Omega.{arith}
use lib.Dec.{T, eqb, ltb, ltb→lt, lt→ltb, leb→le}
use lib.ListN.{length, length-append}
use borrow.Author.Tests.{eq-eqb, eqb-true, le-leb}
use Rattle.lists.specs.Lists.{all, concat_map, concat_from, range}
use Rattle.task.specs.Marks.{ADD, DELETE, GOAL, START}
use Rattle.meaning.specs.Task.{Literal, Clause, Condition, Effect, Action, Task, condition_below, facts_below, effect_below, action_below, well_formed}
use Rattle.task.specs.TaskRows.{Row, row, literal_row, clause_rows, condition_rows, effect_rows, action_rows, preference_rows, task_rows}
use Rattle.task.specs.File.{Sizes, task_of}
use Rattle.task.specs.Check
use Rattle.task.specs.Check.{Answer, accepted, check}
use Rattle.task.specs.Spelling.{action_spellable, spellable}
use Rattle.lists.proofs.Tests.{tests}
use Rattle.task.proofs.Spelled.{accepted_spelling}
use Rattle.task.proofs.Checking.{within}
use Rattle.task.proofs.Refusals.{one_to_six_lem}
use Rattle.text.specs.Ascii.{ascii}
use Rattle.text.specs.Text.{decimal}
use Rattle.text.proofs.Decimal.{few_digits}
use Rattle.pddl_parts.specs.Pddl.{spaced, fact_text, not_text, literal_text, clause_text, condition_text, effect_text, action_line}
use Rattle.pddl_text.specs.Pddl.{domain_text, problem_text}
use Rattle.pddl_text.specs.Outcomes.{written, refused, fitted, outcome_by, outcome}
use Rattle.task.specs.Limits.{MAX_AMOUNT}

-- Lists, each of whose parts is after a space

module _ {A : Type 0} (ok : A → Bool) (text : A → List ℕ) where
  -- by the rows of each part
  by_rows : (rows : A → List Row) → ((a : A) → T (ok a) → 1 + length (text a) ≤ 19 * length (rows a))
      → (l : List A) → T (all ok l) → length (spaced text l) ≤ 19 * length (concat_map rows l)
  by_rows rows short [] t = omega arith
  by_rows rows short (a ∷ l) t =
      omega (arith, length-append (text a) (spaced text l), length-append (rows a) (concat_map rows l), short a (search tests), by_rows rows short l (search tests))

  -- where each part is one row
  by_row : (f : A → Row) → ((a : A) → T (ok a) → length (text a) ≤ 18) → (l : List A) → T (all ok l) → length (spaced text l) ≤ 19 * length (map f l)
  by_row f short [] t = omega arith
  by_row f short (a ∷ l) t = omega (arith, length-append (text a) (spaced text l), short a (search tests), by_row f short l (search tests))

-- Conditions and effects, of facts below F

module _ (F : ℕ) (few : F ≤ 128) where
  short_fact : (n : ℕ) → T (ltb n F) → length (fact_text n) ≤ 6
  short_fact n t = omega (arith, length-append (decimal n) (ascii ")"), few_digits 2 n (omega (arith, few, ltb→lt n F t)))

  short_not : (n : ℕ) → T (ltb n F) → length (not_text n) ≤ 12
  short_not n t = omega (arith, length-append (fact_text n) (ascii ")"), short_fact n t)

  short_literal : (l : Literal) → T (ltb l.fact F) → length (literal_text l) ≤ 12
  short_literal l t = go l.holds
    where
      go : (h : Bool) → length (cond h (fact_text l.fact) (not_text l.fact)) ≤ 12
      go true = omega (arith, short_fact l.fact t)
      go false = short_not l.fact t

  short_clause : (c : Clause) → T (all (λ (l : Literal). ltb l.fact F) c) → 1 + length (clause_text c) ≤ 19 * length (clause_rows c)
  short_clause [] t = omega arith
  short_clause (l ∷ []) t = omega (arith, short_literal l (search tests))
  short_clause (l ∷ m ∷ c) t =
      omega (arith, length-append (spaced literal_text (l ∷ m ∷ c)) (ascii ")"), by_row (λ (l : Literal). ltb l.fact F) literal_text literal_row (λ l s. omega (arith, short_literal l s)) (l ∷ m ∷ c) t)

  short_condition : (c : Condition) → T (condition_below F c) → length (condition_text c) ≤ 5 + 19 * length (condition_rows c)
  short_condition c t =
      omega (arith, length-append (spaced clause_text c) (ascii ")"), by_rows (all (λ (l : Literal). ltb l.fact F)) clause_text clause_rows short_clause c t)

  short_facts : (m : ℕ) (ns : List ℕ) → T (facts_below F ns) → length (spaced fact_text ns) ≤ 19 * length (map (row m) ns)
  short_facts m = by_row (λ (n : ℕ). ltb n F) fact_text (row m) (λ n t. omega (arith, short_fact n t))

  short_nots : (ns : List ℕ) → T (facts_below F ns) → length (spaced not_text ns) ≤ 19 * length (map (row DELETE) ns)
  short_nots = by_row (λ (n : ℕ). ltb n F) not_text (row DELETE) (λ n t. omega (arith, short_not n t))

  short_effect : (e : Effect) → T (effect_below F e) → 1 + length (effect_text e) ≤ 19 * length (effect_rows e)
  short_effect e t =
      let adds : List ℕ = spaced fact_text e.adds in
      let deletes : List ℕ = spaced not_text e.deletes in
      let rows : List Row = condition_rows e.condition in
      omega (
        arith,
        length-append (condition_text e.condition) (ascii " (and" ++ ((adds ++ (deletes ++ ascii ")")) ++ ascii ")")),
        length-append (adds ++ (deletes ++ ascii ")")) (ascii ")"),
        length-append adds (deletes ++ ascii ")"),
        length-append deletes (ascii ")"),
        length-append (rows ++ map (row ADD) e.adds) (map (row DELETE) e.deletes),
        length-append rows (map (row ADD) e.adds),
        short_condition e.condition (search tests),
        short_facts ADD e.adds (search tests),
        short_nots e.deletes (search tests),
      )

  -- Actions

  short_line : (k : ℕ) → k < 128 → (a : Action) → T (action_below F a) → T (action_spellable a) → length (action_line k a) ≤ 80 + 19 * length (action_rows a)
  short_line k h a t s =
      let effects : List ℕ = spaced effect_text a.effects in
      let cost : List ℕ = ascii " :effect (and (increase (total-cost) " ++ (decimal a.cost ++ (ascii ")" ++ (effects ++ ascii "))\n"))) in
      omega (
        arith,
        length-append (decimal k) (ascii " :parameters () :precondition " ++ (condition_text a.precondition ++ cost)),
        length-append (condition_text a.precondition) cost,
        length-append (decimal a.cost) (ascii ")" ++ (effects ++ ascii "))\n")),
        length-append effects (ascii "))\n"),
        length-append (condition_rows a.precondition) (concat_map effect_rows a.effects),
        few_digits 2 k (omega arith),
        few_digits 9 a.cost (omega (arith, leb→le a.cost MAX_AMOUNT (search tests))),
        short_condition a.precondition (search tests),
        by_rows (effect_below F) effect_text effect_rows short_effect a.effects (search tests),
      )

  short_lines : (k : ℕ) (l : List Action) → k + length l ≤ 128 → T (all (action_below F) l) → T (all action_spellable l)
      → length (concat_from action_line k l) ≤ 80 * length l + 19 * length (concat_map action_rows l)
  short_lines k [] h t s = omega arith
  short_lines k (a ∷ l) h t s =
      omega (
        arith,
        length-append (action_line k a) (concat_from action_line (k + 1) l),
        length-append (action_rows a) (concat_map action_rows l),
        short_line k (omega arith) a (search tests) (search tests),
        short_lines (k + 1) l (omega arith) (search tests) (search tests),
      )

  short_numbers : (k n : ℕ) → k + n ≤ F → length (spaced fact_text (range k n)) ≤ 7 * n
  short_numbers k zero h = omega arith
  short_numbers k (suc n) h =
      omega (
        arith,
        length-append (fact_text k) (spaced fact_text (range (k + 1) n)),
        short_fact k (lt→ltb k F (omega arith)),
        short_numbers (k + 1) n (omega arith),
      )

-- The two texts

module _ (t : Task) (few_facts : t.facts ≤ 128) (few_actions : length t.actions ≤ 128) (few_rows : length (task_rows t) ≤ 12000)
    (formed : T (well_formed t)) (spelling : T (spellable t)) where
  abbrev starts : List Row
  starts = map (row START) t.start

  abbrev goal : List Row
  goal = condition_rows t.goal

  abbrev actions : List Row
  actions = concat_map action_rows t.actions

  rows_are : length starts + suc (length goal) + length actions ≤ 12000
  rows_are =
      omega (
        arith,
        few_rows,
        length-append (starts ++ (row GOAL 0 ∷ goal) ++ actions) (concat_map preference_rows t.preferences),
        length-append (starts ++ (row GOAL 0 ∷ goal)) actions,
        length-append starts (row GOAL 0 ∷ goal),
      )

  short_domain : length (domain_text t) ≤ 262144
  unfolding domain_text
  short_domain =
      let facts : List ℕ = spaced fact_text (range 0 t.facts) in
      let lines : List ℕ = concat_from action_line 0 t.actions in
      omega (
        arith,
        length-append facts (ascii ")\n(:functions (total-cost))\n" ++ (lines ++ ascii ")\n")),
        length-append lines (ascii ")\n"),
        short_numbers t.facts few_facts 0 t.facts (omega arith),
        short_lines t.facts few_facts 0 t.actions (omega (arith, few_actions)) (search tests) (search tests),
        rows_are,
        few_facts,
        few_actions,
      )

  short_problem : length (problem_text t) ≤ 262144
  unfolding problem_text
  short_problem =
      let start : List ℕ = spaced fact_text t.start in
      let condition : List ℕ = condition_text t.goal in
      omega (
        arith,
        length-append start (ascii ")\n(:goal " ++ (condition ++ ascii ")\n(:metric minimize (total-cost)))\n")),
        length-append condition (ascii ")\n(:metric minimize (total-cost)))\n"),
        short_facts t.facts few_facts START t.start (search tests),
        short_condition t.facts few_facts t.goal (search tests),
        rows_are,
      )

pub longest : (b : List ℕ) (z : Sizes) → check b ≡ accepted z → (length (domain_text (task_of b)) ≤ 262144) × (length (problem_text (task_of b)) ≤ 262144)
longest b z h =
    let s = accepted_spelling b z h in
    let (rows, facts₁, facts, actions, preferences) = within z s.allowed in
    let few_facts : (task_of b).facts ≤ 128 = omega (arith, facts, ap (λ (y : Sizes). y.facts) s.sized) in
    let few_actions : length (task_of b).actions ≤ 128 = omega (arith, actions, ap (λ (y : Sizes). y.actions) s.sized) in
    let few_rows : length (task_rows (task_of b)) ≤ 12000 = omega (arith, rows, ap (λ (y : Sizes). y.rows) s.sized) in (
      short_domain (task_of b) few_facts few_actions few_rows s.formed s.spelling,
      short_problem (task_of b) few_facts few_actions few_rows s.formed s.spelling,
    )

-- so such areas hold both texts of every accepted task without preferences
pub enough : (b : List ℕ) (z : Sizes) → check b ≡ accepted z → z.preferences ≡ 0 → (domain problem : ℕ) → 262144 ≤ domain → 262144 ≤ problem
    → outcome b domain problem ≡ written (length (domain_text (task_of b))) (length (problem_text (task_of b)))
unfolding outcome
enough b z h none domain problem d p =
    let (of_domain, of_problem) = longest b z h in
    let fits : length (domain_text (task_of b)) ≤ domain = omega (arith, d, of_domain) in
    let fits' : length (problem_text (task_of b)) ≤ problem = omega (arith, p, of_problem) in
    rw (h, eq-eqb z.preferences 0 none, le-leb (length (domain_text (task_of b))) domain fits, le-leb (length (problem_text (task_of b))) problem fits')

-- and are never refused by 14
pub never_too_short : (b : List ℕ) (domain problem : ℕ) → 262144 ≤ domain → 262144 ≤ problem → (i : ℕ) → outcome b domain problem ≡ refused 14 i → ⊥
unfolding outcome
never_too_short b domain problem d p i e = by_answer (check b) refl e
  where
    by_answer : (a : Answer) → check b ≡ a → outcome_by b domain problem a ≡ refused 14 i → ⊥
    by_answer (Check.refused n j) h e = let fourteen : n ≡ 14 = cc in omega (arith, (one_to_six_lem b n j h).1)
    by_answer (Check.accepted z) h e = by_preferences (eqb z.preferences 0) refl e
      where
        by_preferences : (x : Bool) → eqb z.preferences 0 ≡ x → cond x (fitted (task_of b) domain problem) (refused 13 0) ≡ refused 14 i → ⊥
        by_preferences true q e =
            let none : z.preferences ≡ 0 = eqb-true z.preferences 0 q in
            true≢false (cc (e, (rw (h, q) at (enough b z h none domain problem d p))))
        by_preferences false q e = true≢false (cc)
