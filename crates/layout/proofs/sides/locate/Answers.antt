-- The sides are where the marks end: each of the four numbers is one of `sides_at`, by what skip_marks answers.
use mathlib.Core.Path.{ap, ◌∙◌}
use Rattle.task.specs.Marks.{CLAUSE, LACKS, SECOND}
use Rattle.layout.specs.Sides.{end_at}
use borrow.Author.Rules.{rules}
use Rattle.layout.proofs.sides.locate.Goals as goal

pub returns : goal.returns
returns c =
    let d = c.skip_marks-first in
    let m = c.skip_marks-mid in
    let s = c.skip_marks-second in
    let n = c.skip_marks-next in
    let ms = c.args.marks.now in
    let mid_is = m.ensures.value ∙ ap (end_at CLAUSE LACKS ms) d.ensures.value in
    let second_is = s.ensures.value ∙ ap (end_at SECOND SECOND ms) mid_is in
    let next_is = n.ensures.value ∙ ap (end_at CLAUSE LACKS ms) second_is in
    record {
      in_order = search rules;
      value = λ i. record { first = record { from = d.ensures.value i; to = mid_is i }; second = record { from = second_is i; to = next_is i } };
    }
