-- The shape is made of what count_choices and skip_marks answer.
use mathlib.Core.Path.{ap, ◌∙◌}
use Prim.Native.Nat.{ℕ}
use native.Mathlib.Omega.{arith}
use Rattle.single_effects.specs.Shapes.{shape_by}
use Rattle.single_effects.proofs.shapes.shape_of.Goals as goal

pub returns : goal.returns
returns c =
    let n = c.count_choices-c in
    let s = c.skip_marks-to in
    let ms = c.args.marks.now in record {
      in_order = record { opened = omega (arith, n.ensures.from_le_next.0); whole = s.ensures.lower_bound.0; inside = s.ensures.lower_bound.1 };
      by_index = λ vs. ap (λ (to : ℕ). record { choices = n.result.choices; clauses = n.result.clauses; changes = record { from = n.result.next; to = to } }) s.ensures.value
          ∙ ap (shape_by ms) (n.ensures.by_index vs);
    }
