-- The rows of one effect, and of one effect for each false clause of a condition.
use Rattle.std.specs.Prelude.{Bool, false, cond, ◌||◌, List, [], ◌∷◌, ◌++◌, ℕ, ◌≤◌, eqb, length, get_or}
use Rattle.task.specs.Marks.{EFFECT, CLAUSE, HOLDS, LACKS, ADD, DELETE}
use Rattle.task.specs.TaskRows.{Row, row}
use Rattle.task.specs.File.{has_mark}
use Rattle.task.specs.Rows.{value_at}
use Rattle.layout.specs.Sides.{part}
use Rattle.effects.specs.declared.Guard.{Guard}
use Rattle.effects.specs.declared.Guard.TheVariants.{Nothing, Holds, Lacks, BothHold, BothLack, Rows}
use Rattle.effects.specs.declared.Change.{Change}
use Rattle.effects.specs.declared.Change.TheVariants.{Add, AddBoth, Delete}
use Rattle.effects.specs.declared.Effect.{Effect}

-- a clause of one literal
abbrev pub single_rows : ℕ → ℕ → List Row
single_rows m n = row CLAUSE 0 ∷ row m n ∷ []

-- two of them
abbrev pub both_rows : ℕ → ℕ → ℕ → List Row
both_rows m n k = single_rows m n ++ single_rows m k

abbrev pub denied_mark : ℕ → ℕ
denied_mark m = cond (eqb m HOLDS) LACKS HOLDS

-- what an effect's condition begins with
abbrev pub guard_rows : List ℕ → List ℕ → Guard → List Row
guard_rows ms vs Nothing = []
guard_rows ms vs (Holds n) = single_rows HOLDS n
guard_rows ms vs (Lacks n) = single_rows LACKS n
guard_rows ms vs (BothHold n k) = both_rows HOLDS n k
guard_rows ms vs (BothLack n k) = both_rows LACKS n k
guard_rows ms vs (Rows s) = part ms vs s

-- the row up to which a guard reads
abbrev pub guard_end : Guard → ℕ
guard_end Nothing = 0
guard_end (Holds n) = 0
guard_end (Lacks n) = 0
guard_end (BothHold n k) = 0
guard_end (BothLack n k) = 0
guard_end (Rows s) = s.to

-- what it changes
abbrev pub changed_rows : Change → List Row
changed_rows (Add n) = row ADD n ∷ []
changed_rows (AddBoth n k) = row ADD n ∷ row ADD k ∷ []
changed_rows (Delete n) = row DELETE n ∷ []

-- the rows that an effect reads are among the source's
pub record Inside (ms : List ℕ) (e : Effect) : Type 0 where
  pub guard_inside : guard_end e.guard ≤ length ms
  pub condition_inside : e.condition.to ≤ length ms

abbrev pub one_effect : List ℕ → List ℕ → Effect → List Row
one_effect ms vs e = row EFFECT 0 ∷ guard_rows ms vs e.guard ++ (part ms vs e.condition ++ changed_rows e.change)

-- Each false clause: gs stand before the denied literals and zs after them, and the Bool says whether an effect is open

abbrev pub close_rows : Bool → List Row → List Row
close_rows begun zs = cond begun zs []

abbrev pub false_row : List Row → List Row → Bool → ℕ → ℕ → List Row
false_row gs zs begun m v = cond (eqb m CLAUSE) (close_rows begun zs ++ (row EFFECT 0 ∷ gs)) (single_rows (denied_mark m) v)

unfoldable pub false_rows : List Row → List Row → Bool → List Row → List Row
false_rows gs zs begun [] = close_rows begun zs
false_rows gs zs begun (x ∷ xs) = false_row gs zs begun x.mark x.value ++ false_rows gs zs (begun || has_mark CLAUSE x) xs

abbrev pub false_row_at : List ℕ → List ℕ → Effect → ℕ → Bool → List Row
false_row_at ms vs e j begun = false_row (guard_rows ms vs e.guard) (changed_rows e.change) begun (get_or ms j 0) (value_at vs j)

abbrev pub false_effects : List ℕ → List ℕ → Effect → List Row
false_effects ms vs e = false_rows (guard_rows ms vs e.guard) (changed_rows e.change) false (part ms vs e.condition)
