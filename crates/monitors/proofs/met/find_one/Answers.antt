-- One preference more, met or not: the two branches compute.
use mathlib.Core.Path.{◌≡◌, sym, ap, ap₂, ◌∙◌}
use Prim.Native.Nat.{ℕ}
use borrow.Author.Rules.{rules}
use Rattle.task.specs.File.{soft_mark, kind_of}
use Rattle.meaning.specs.Monitor.{accepting}
use Rattle.monitor.specs.Packed.{monitor_at}
use Rattle.monitors.proofs.met.find_one.Goals as goal
use Rattle.monitors.proofs.met.find_one.Goals.{After-is_accepting-accepting}

-- whether the preference is met, in the definition's words
met_is : (c : After-is_accepting-accepting) → let a = c.args in
    accepting (kind_of (soft_mark a.mark) 0) (monitor_at a.ms.now a.f.number) ≡ c.is_accepting-accepting.result
met_is c =
    sym (c.is_accepting-accepting.ensures
    ∙ ap₂ accepting (c.kind_of-kind.ensures.result_value ∙ ap (λ (m : ℕ). kind_of m 0) c.soft_mark.ensures) c.monitor_at.ensures)

pub returns-then-accepting : goal.returns-then-accepting
returns-then-accepting c = record {
  by_index = λ v. rw (met_is (goal.at.returns-then-accepting c).After-is_accepting-accepting, c.kept_with-kept.ensures.0, ← c.opens_hard.ensures, c.if-accepting.true, c.with.ensures);
  number_bound = search rules;
}

pub returns-else-accepting : goal.returns-else-accepting
returns-else-accepting c = record {
  by_index = λ v. rw (met_is (goal.at.returns-else-accepting c).After-is_accepting-accepting, c.kept_with-kept.ensures.0, ← c.opens_hard.ensures, c.if-accepting.false);
  number_bound = search rules;
}
