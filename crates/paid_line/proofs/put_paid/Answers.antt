-- The line is put_held's, for the metric that metric_of answers; it has at most 57 bytes, so the area has it whole: whole_line of Whole.
use mathlib.Core.Path.{subst}
use native.Mathlib.Omega.{arith}
use Rattle.text.specs.Area.{Wrote}
use Rattle.paid_line.specs.Paid.{Metric, held_to, line_on}
use Rattle.paid_line.proofs.Whole.{whole_line}
use Rattle.paid_line.proofs.put_paid.Goals as goal

pub returns : goal.returns
returns c =
    let a = c.args in
    let h = c.put_held in
    let old = a.out.now in
    let put = subst (λ (x : Metric). Wrote old 0 (held_to x a.cost) h.result h.new.out) c.metric_of-m.ensures h.ensures.wrote in
    let line = whole_line old (line_on a.file.now a.plan.now a.cost) h.new.out h.result put (omega (arith, h.ensures.upper_bound)) in
    record {
      value = line.0;
      out_after = line.1;
      upper_bound = (h.ensures.upper_bound, omega (arith, h.auto.out));
    }
