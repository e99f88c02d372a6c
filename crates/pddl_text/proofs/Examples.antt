-- Request 4's two texts, computed.
use mathlib.Core.Path.{◌≡◌, refl}
use mathlib.Core.Bool.{false}
use mathlib.Core.List.{[], ◌∷◌, ◌++◌}
use Prim.Native.Nat.{ℕ}
use Rattle.meaning.specs.Task.{Literal, Task}
use Rattle.text.specs.Ascii.{ascii}
use Rattle.text.specs.Text.{decimal}
use Rattle.pddl_text.specs.Pddl.{domain_text, problem_text}

abbrev lacks : ℕ → Literal
lacks n = record { holds = false; fact = n }

abbrev small : Task
small = record { facts = 2; start = 1 ∷ []; goal = (lacks 1 ∷ []) ∷ []; actions = record { cost = 0; precondition = []; effects = [] } ∷ []; preferences = [] }

domain : domain_text small
    ≡ ascii "(define (domain d)\n"
    ++ ascii "(:requirements :negative-preconditions :disjunctive-preconditions :conditional-effects :action-costs)\n"
    ++ ascii "(:predicates (f0) (f1))\n"
    ++ ascii "(:functions (total-cost))\n"
    ++ ascii "(:action a0 :parameters () :precondition (and) :effect (and (increase (total-cost) 0)))\n"
    ++ ascii ")\n"
unfolding domain_text decimal
domain = refl

problem : problem_text small
    ≡ ascii "(define (problem p) (:domain d)\n"
    ++ ascii "(:init (= (total-cost) 0) (f1))\n"
    ++ ascii "(:goal (and (not (f1))))\n"
    ++ ascii "(:metric minimize (total-cost)))\n"
unfolding problem_text decimal
problem = refl
