-- An entry that is not there is 0, a fresh monitor.
use mathlib.Core.Path.{sym, ap, ◌∙◌}
use lib.ListN.{get_or-eq_default}
use borrow.Author.Rules.{rules}
use Rattle.monitor.specs.Packed.{monitor_of}
use Rattle.monitor.proofs.monitor_at.Goals as goal

pub returns-then-ms-i : goal.returns-then-ms-i
returns-then-ms-i c =
    let a = c.args in
    c.unpacked.ensures.0 ∙ sym (ap monitor_of (get_or-eq_default a.ms.now 0 {n = a.k} (search rules)))
