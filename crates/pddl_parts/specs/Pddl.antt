-- Conditions and actions in PDDL: document 02, request 4.
use Rattle.std.specs.Prelude.{cond, List, [], ◌∷◌, ◌++◌, ℕ}
use Rattle.lists.specs.Lists.{concat_map}
use Rattle.meaning.specs.Task.{Literal, Clause, Condition, Effect, Action}
use Rattle.text.specs.Ascii.{ascii}
use Rattle.text.specs.Text.{decimal}

-- Lists

-- each of a list, after a space
abbrev pub spaced : {A : Type 0} → (A → List ℕ) → List A → List ℕ
spaced {A} f = concat_map (λ (x : A). ascii " " ++ f x)

-- `(and)`, `(and x)`, `(and x y)`
abbrev pub and_text : {A : Type 0} → (A → List ℕ) → List A → List ℕ
and_text f xs = ascii "(and" ++ (spaced f xs ++ ascii ")")

-- Conditions

abbrev pub fact_text : ℕ → List ℕ
fact_text n = ascii "(f" ++ (decimal n ++ ascii ")")

abbrev pub not_text : ℕ → List ℕ
not_text n = ascii "(not " ++ (fact_text n ++ ascii ")")

abbrev pub literal_text : Literal → List ℕ
literal_text l = cond l.holds (fact_text l.fact) (not_text l.fact)

-- an `or` for a clause of several literals
abbrev pub clause_text : Clause → List ℕ
clause_text [] = ascii "(or)"
clause_text (l ∷ []) = literal_text l
clause_text (l ∷ m ∷ ls) = ascii "(or" ++ (spaced literal_text (l ∷ m ∷ ls) ++ ascii ")")

abbrev pub condition_text : Condition → List ℕ
condition_text = and_text clause_text

-- Actions

-- what an effect adds, plain, and what it deletes, with `not`
abbrev pub changes_text : Effect → List ℕ
changes_text e = ascii "(and" ++ (spaced fact_text e.adds ++ (spaced not_text e.deletes ++ ascii ")"))

abbrev pub effect_text : Effect → List ℕ
effect_text e = ascii "(when " ++ (condition_text e.condition ++ (ascii " " ++ (changes_text e ++ ascii ")")))

-- the line of action k, up to its precondition
abbrev pub head_text : ℕ → List ℕ
head_text k = ascii "(:action a" ++ (decimal k ++ ascii " :parameters () :precondition ")

-- what opens the effects of an action that costs n
abbrev pub cost_text : ℕ → List ℕ
cost_text n = ascii " :effect (and (increase (total-cost) " ++ (decimal n ++ ascii ")")

-- the line of action k
abbrev pub action_line : ℕ → Action → List ℕ
action_line k a =
    ascii "(:action a" ++ (decimal k ++ (ascii " :parameters () :precondition " ++ (condition_text a.precondition
    ++ (ascii " :effect (and (increase (total-cost) " ++ (decimal a.cost ++ (ascii ")" ++ (spaced effect_text a.effects ++ ascii "))\n")))))))
