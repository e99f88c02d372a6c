-- Document 01's belt, and a gate with a rule of each kind that can be lost, computed.
use mathlib.Core.Path.{◌≡◌, refl}
use mathlib.Core.Bool.{true, false}
use mathlib.Core.List.{[], ◌∷◌, map}
use Prim.Native.Nat.{ℕ, ◌+◌}
use Rattle.lists.specs.Lists.{singleton}
use Rattle.meaning.specs.Task.{Task, always, sometime, at_most_once, sometime_before, Kind, Condition, Preference}
use Rattle.task.specs.File.{task_of}
use Rattle.meaning.specs.Meaning.{final, solves, cost, met, seen, preference_at}
use Rattle.task.proofs.Belt.{belt}
use Rattle.classical.specs.Translation.{effect, alone, holds_fact, lacks_fact, translated}
use Rattle.losses.specs.Losses.{broken, lost_weight, lost_after, lost, stopped, left}

-- The belt: amber is on it at the opening, so always (weight 5) is lost once that state is left, and no more once it is closed.

belt_lost : lost_after (task_of belt) [] ≡ lost 0 0
unfolding lost_after translated
belt_lost = refl

belt_swept : lost_after (task_of belt) (0 ∷ []) ≡ lost 3 5
unfolding lost_after translated
belt_swept = refl

belt_ended : lost_after (task_of belt) (0 ∷ 2 ∷ []) ≡ lost 3 5
unfolding lost_after translated
belt_ended = refl

belt_closed : lost_after (task_of belt) (0 ∷ 2 ∷ 4 ∷ []) ≡ lost 8 0
unfolding lost_after translated
belt_closed = refl

-- collect 0 asks that always is met
belt_stopped : lost_after (task_of belt) (0 ∷ 2 ∷ 3 ∷ 5 ∷ []) ≡ stopped 2
unfolding lost_after translated
belt_stopped = refl

-- The gate is fact 0: action 0 opens it, action 1 shuts it. The lamp is fact 1: action 2 lights it. Each action goes at any time.

abbrev rule : Kind → ℕ → Condition → Condition → Preference
rule k w φ ψ = record { kind = k; hard = false; weight = w; first = φ; second = ψ }

abbrev pub gate : Task
gate =
    record {
      facts = 2;
      start = [];
      goal = [];
      actions =
          record { cost = 10; precondition = []; effects = singleton (effect [] (singleton 0) []) }
          ∷ record { cost = 10; precondition = []; effects = singleton (effect [] [] (singleton 0)) }
          ∷ record { cost = 10; precondition = []; effects = singleton (effect [] (singleton 1) []) }
          ∷ [];
      preferences =
          rule always 1 (alone (singleton (lacks_fact 1))) []
          ∷ rule at_most_once 2 (alone (singleton (holds_fact 0))) []
          ∷ rule sometime_before 4 (alone (singleton (holds_fact 0))) (alone (singleton (holds_fact 1)))
          ∷ rule sometime 8 (alone (singleton (holds_fact 1))) []
          ∷ [];
    }

-- open, shut, open, light, end: each rule is lost once the state that breaks it is left
gate_open : (lost_after gate (0 ∷ []) ≡ lost 10 0) × (lost_after gate (0 ∷ 1 ∷ []) ≡ lost 20 4) × (lost_after gate (0 ∷ 1 ∷ 0 ∷ []) ≡ lost 30 4)
    × (lost_after gate (0 ∷ 1 ∷ 0 ∷ 2 ∷ []) ≡ lost 40 6)
    × (lost_after gate (0 ∷ 1 ∷ 0 ∷ 2 ∷ 3 ∷ []) ≡ lost 40 7)
unfolding lost_after translated
gate_open = (refl, refl, refl, refl, refl)

-- closed in turn: always is forgone, then at-most-once; sometime-before stays lost
gate_closing : (lost_after gate (0 ∷ 1 ∷ 0 ∷ 2 ∷ 3 ∷ 5 ∷ []) ≡ lost 41 6) × (lost_after gate (0 ∷ 1 ∷ 0 ∷ 2 ∷ 3 ∷ 5 ∷ 7 ∷ []) ≡ lost 43 4)
    × (lost_after gate (0 ∷ 1 ∷ 0 ∷ 2 ∷ 3 ∷ 5 ∷ 6 ∷ []) ≡ stopped 6)
unfolding lost_after translated
gate_closing = (refl, refl, refl)

-- the states left miss at-most-once, and it is shown broken
gate_left : (broken gate (final (translated gate) (0 ∷ 1 ∷ 0 ∷ 2 ∷ [])) 1 ≡ true)
    × (met at_most_once (map (seen (preference_at gate 1)) (left gate (translated gate) (0 ∷ 1 ∷ 0 ∷ 2 ∷ []))) ≡ false)
    × (broken gate (final (translated gate) (0 ∷ 1 ∷ 0 ∷ [])) 1 ≡ false)
    × (met at_most_once (map (seen (preference_at gate 1)) (left gate (translated gate) (0 ∷ 1 ∷ 0 ∷ []))) ≡ true)
unfolding translated
gate_left = (refl, refl, refl, refl)

-- after the end the cost so far and what is lost come to the cost of the one solution
gate_bound : (solves (translated gate) (0 ∷ 1 ∷ 0 ∷ 2 ∷ 3 ∷ 5 ∷ 7 ∷ 9 ∷ 10 ∷ []) ≡ true)
    × (cost (translated gate) (0 ∷ 1 ∷ 0 ∷ 2 ∷ 3 ∷ 5 ∷ 7 ∷ 9 ∷ 10 ∷ []) ≡ 47)
    × (cost (translated gate) (0 ∷ 1 ∷ 0 ∷ 2 ∷ 3 ∷ []) + lost_weight gate (0 ∷ 1 ∷ 0 ∷ 2 ∷ 3 ∷ []) ≡ 47)
unfolding translated
gate_bound = (refl, refl, refl)
