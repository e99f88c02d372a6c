-- The kind of the soft mark, with the steps of the row after it.
use mathlib.Core.Path.{◌∙◌}
use Rattle.task.specs.File.{kind_of}
use Rattle.task.proofs.kinds.kind_at.Goals as goal

pub returns : goal.returns
returns c = record {
  result_value = c.kind_of.ensures.result_value ∙ (λ i. kind_of (c.soft_mark-mark.ensures i) (c.steps.ensures.0 i));
  t = c.kind_of.ensures.t;
}
