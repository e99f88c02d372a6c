-- The bytes read from 4 × i on are the first four after 4 × i are dropped, as value_at has them: get_or-drop of Seq.
use mathlib.Core.Path.{◌∙◌}
use native.Mathlib.Omega.{arith}
use native.Mathlib.Nat.{add-zero}
use lib.Seq.{get_or-drop}
use Rattle.task.proofs.rows.value_at.Goals as goal

pub returns : goal.returns
returns c = c.from_le_bytes.ensures ∙ simp (get_or-drop, add-zero) (omega arith)
