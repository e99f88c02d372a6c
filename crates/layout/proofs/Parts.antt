-- The marks and the values of an accepted file spell its task.
use mathlib.Core.Path.{◌≡◌, ap}
use mathlib.Core.List.{List}
use Prim.Native.Nat.{ℕ}
use native.Mathlib.Omega.{arith}
use Rattle.task.specs.File.{Sizes, task_of, marks_of, values_of}
use Rattle.task.specs.Check.{accepted, check}
use Rattle.task.proofs.Spelled.{Spelling, accepted_spelling}
use Rattle.task.proofs.Answered.{Limited, limited, parts_spell}
use Rattle.layout.specs.Rows.{Spells}

module _ (b : List ℕ) (z : Sizes) (h : check b ≡ accepted z) where
  pub parts_spelled : Spells (marks_of b z.rows) (values_of b z.rows) (task_of b)
  parts_spelled =
      let s : Spelling b z = accepted_spelling b z h in
      let l : Limited b z = limited b z h in
      record {
        spelled = parts_spell b z h;
        formed = s.formed;
        spelling = s.spelling;
        few_facts = omega (arith, l.few_facts, ap (λ (x : Sizes). x.facts) s.sized);
        few_preferences = omega (arith, l.few_preferences, ap (λ (x : Sizes). x.preferences) s.sized);
      }
