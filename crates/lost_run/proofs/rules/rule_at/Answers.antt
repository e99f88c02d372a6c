-- What is read is the rule with its monitor, by `Seeing`.
use mathlib.Core.Path.{ap, ◌∙◌}
use Rattle.task.specs.Answers.{as_kind}
use Rattle.meaning.specs.Monitor.{accepting}
use Rattle.monitor.specs.Packed.{monitor_at}
use Rattle.losses.specs.Losses.{shows}
use Rattle.lost_run.proofs.Seeing.{seen_by}
use Rattle.lost_run.proofs.rules.rule_at.Goals as goal

pub returns : goal.returns
returns c = λ q R.
    let a = c.args in
    let k = as_kind c.kind_at-kind.result in
    seen_by a.rows.now.marks.now a.rows.now.values.now a.from q R (monitor_at a.ms.now a.k) k _ c.kind_at-kind.ensures.result_value
    c.opens_hard.ensures c.value.ensures
    (c.is_accepting.ensures ∙ ap (accepting k) c.monitor_at-m.ensures)
    (c.is_broken.ensures ∙ (λ z. shows k (c.monitor_at-m.ensures z).S (c.monitor_at-m.ensures z).B))
