-- An empty slot stops by `stops_empty`, and another by its node's state.
use mathlib.Core.Path.{sym, ap, ◌∙◌}
use mathlib.Core.Bool.{◌&&◌}
use lib.Dec.{eqb}
use Rattle.state.specs.declared.State.{State}
use Rattle.state_table.specs.Table.{stops_at}
use Rattle.state_table.proofs.Probing.{stops_empty}
use Rattle.state_table.proofs.stops.Goals as goal

pub returns-in-None : goal.returns-in-None
returns-in-None c = let a = c.args in stops_empty a.words.now a.s a.entry c.in-None.ensures

pub returns-in-Some : goal.returns-in-Some
returns-in-Some c =
    let a = c.args in
    c.eq.ensures ∙ ap (λ (t : State). eqb t.low a.s.low && eqb t.high a.s.high) c.state_at.ensures
    ∙ ap (stops_at a.words.now a.s) (sym c.in-Some.ensures)
