-- What the code's answers stand for: the values of each case.
use Rattle.std.specs.Prelude.{◌≡◌, List, ℕ, length, Result, Ok, Err}
use Rattle.meaning.specs.Task.{Task}
use Rattle.task.specs.Answers.{number_of}
use Rattle.task.specs.declared.Refusal.{Refusal}
use Rattle.text.specs.Area.{Filled}
use Rattle.pddl_text.specs.Pddl.{domain_text, problem_text}
use Rattle.pddl_text.specs.Outcomes
use Rattle.pddl_text.specs.Outcomes.{fitted, domain_after, problem_after}
use Rattle.pddl_text.specs.declared.Lengths.{Lengths}

abbrev pub answer : Result Lengths Refusal → Outcomes.Outcome
answer (Ok n) = Outcomes.written n.domain n.problem
answer (Err r) = Outcomes.refused (number_of r.cause) r.place

-- a text of t was written from the start of its area on, as far as that reaches
abbrev pub DomainPut : List ℕ → Lengths → List ℕ → Task → Type 0
DomainPut area r left t = Filled area (domain_text t) r.domain left

abbrev pub ProblemPut : List ℕ → Lengths → List ℕ → Task → Type 0
ProblemPut area r left t = Filled area (problem_text t) r.problem left

-- both texts of t where both fit into their areas, else 14
abbrev pub TextsAnswer : List ℕ → List ℕ → Result Lengths Refusal → Task → Type 0
TextsAnswer domain problem r t = answer r ≡ fitted t (length domain) (length problem)

-- an area after the answer
abbrev pub DomainLeft : List ℕ → Result Lengths Refusal → List ℕ → Task → Type 0
DomainLeft area r left t = left ≡ domain_after t area (answer r)

abbrev pub ProblemLeft : List ℕ → Result Lengths Refusal → List ℕ → Task → Type 0
ProblemLeft area r left t = left ≡ problem_after t area (answer r)
