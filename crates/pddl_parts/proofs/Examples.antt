-- Request 4's condition and action, computed.
use mathlib.Core.Path.{◌≡◌, refl}
use mathlib.Core.Bool.{true, false}
use mathlib.Core.List.{[], ◌∷◌}
use Prim.Native.Nat.{ℕ}
use Rattle.meaning.specs.Task.{Literal, Condition, Action}
use Rattle.text.specs.Ascii.{ascii}
use Rattle.text.specs.Text.{decimal}
use Rattle.pddl_parts.specs.Pddl.{condition_text, action_line}

abbrev holds : ℕ → Literal
holds n = record { holds = true; fact = n }

abbrev lacks : ℕ → Literal
lacks n = record { holds = false; fact = n }

abbrev Q : Condition
Q = (holds 2 ∷ []) ∷ (holds 0 ∷ lacks 1 ∷ []) ∷ []

condition : condition_text Q ≡ ascii "(and (f2) (or (f0) (not (f1))))"
unfolding decimal
condition = refl

abbrev a0 : Action
a0 = record { cost = 3; precondition = []; effects = record { condition = Q; adds = 0 ∷ []; deletes = 1 ∷ [] } ∷ [] }

action : action_line 0 a0 ≡ ascii "(:action a0 :parameters () :precondition (and) :effect (and (increase (total-cost) 3) (when (and (f2) (or (f0) (not (f1)))) (and (f0) (not (f1))))))\n"
unfolding decimal
action = refl
