-- A task without preferences as a domain and a problem in PDDL, line by line: document 02, request 4.
use Rattle.std.specs.Prelude.{List, ◌++◌, ℕ}
use Rattle.lists.specs.Lists.{concat_from, range}
use Rattle.meaning.specs.Task.{Task}
use Rattle.text.specs.Ascii.{ascii}
use Rattle.pddl_parts.specs.Pddl.{spaced, fact_text, condition_text, action_line}

unfoldable pub domain_text : Task → List ℕ
domain_text t =
    ascii "(define (domain d)\n"
    ++ (ascii "(:requirements :negative-preconditions :disjunctive-preconditions :conditional-effects :action-costs)\n"
    ++ (ascii "(:predicates" ++ (spaced fact_text (range 0 t.facts) ++ (ascii ")\n"
    ++ (ascii "(:functions (total-cost))\n"
    ++ (concat_from action_line 0 t.actions
    ++ ascii ")\n"))))))

unfoldable pub problem_text : Task → List ℕ
problem_text t =
    ascii "(define (problem p) (:domain d)\n"
    ++ (ascii "(:init (= (total-cost) 0)" ++ (spaced fact_text t.start ++ (ascii ")\n"
    ++ (ascii "(:goal " ++ (condition_text t.goal ++ (ascii ")\n"
    ++ ascii "(:metric minimize (total-cost)))\n"))))))
