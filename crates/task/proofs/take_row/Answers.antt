-- By the mark: START has a fact that rises and sets the floor, ACTION a cost, and it is counted; the others are take_other's.
use mathlib.Core.Path.{refl, sym}
use borrow.Author.Rules.{rules}
use Rattle.task.proofs.Values.{of_start, of_action}
use Rattle.task.proofs.Taking.{took}
use Rattle.task.proofs.take_row.Goals as goal

pub returns-in-9 : goal.returns-in-9
returns-in-9 c =
    let a = c.args in
    let is = c.in-9.is in
    took _ _ a.w a.context _ _ _ c.then_some.ensures (sym (of_start a.facts a.w.floor a.mark a.value is))
    record { progress = rw is; context = refl; actions = search rules; preferences = search rules }

pub returns-in-1 : goal.returns-in-1
returns-in-1 c =
    let a = c.args in
    let is = c.in-1.is in
    took _ _ a.w a.context _ _ _ c.then_some-in-1.ensures (sym (of_action a.facts a.w.floor a.mark a.value is))
    record { progress = rw is; context = refl; actions = search rules; preferences = search rules }
