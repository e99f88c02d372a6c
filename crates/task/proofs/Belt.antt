-- The belt of document 01 as a file.
use mathlib.Core.Path.{◌≡◌, refl}
use mathlib.Core.List.{List, [], ◌∷◌}
use Prim.Native.Nat.{ℕ}
use Rattle.task.specs.File.{task_of}
use Rattle.meaning.proofs.DocumentExamples.{belt_task}

-- The belt's 98 bytes: sizes, marks, values
abbrev pub belt : List ℕ
belt =
    2 ∷ 0 ∷ 2 ∷ 0 ∷ 2 ∷ 0 ∷ 18 ∷ 0
    ∷ 9 ∷ 8 ∷ 3 ∷ 5 ∷ 1 ∷ 2 ∷ 6 ∷ 7 ∷ 1 ∷ 2 ∷ 6 ∷ 7 ∷ 10 ∷ 3 ∷ 5 ∷ 11 ∷ 3 ∷ 4
    ∷ 1 ∷ 0 ∷ 0 ∷ 0 ∷ 0 ∷ 0 ∷ 0 ∷ 0 ∷ 0 ∷ 0 ∷ 0 ∷ 0 ∷ 1 ∷ 0 ∷ 0 ∷ 0
    ∷ 3 ∷ 0 ∷ 0 ∷ 0 ∷ 0 ∷ 0 ∷ 0 ∷ 0 ∷ 0 ∷ 0 ∷ 0 ∷ 0 ∷ 1 ∷ 0 ∷ 0 ∷ 0
    ∷ 1 ∷ 0 ∷ 0 ∷ 0 ∷ 0 ∷ 0 ∷ 0 ∷ 0 ∷ 1 ∷ 0 ∷ 0 ∷ 0 ∷ 0 ∷ 0 ∷ 0 ∷ 0
    ∷ 5 ∷ 0 ∷ 0 ∷ 0 ∷ 0 ∷ 0 ∷ 0 ∷ 0 ∷ 1 ∷ 0 ∷ 0 ∷ 0
    ∷ 7 ∷ 0 ∷ 0 ∷ 0 ∷ 0 ∷ 0 ∷ 0 ∷ 0 ∷ 0 ∷ 0 ∷ 0 ∷ 0 ∷ []

pub belt_spelled : task_of belt ≡ belt_task
belt_spelled = refl
