-- By the entry of the state's slot: `met_known`, `met_full` and `met_new`.
use borrow.Author.Rules.{rules}
use mathlib.Core.Path.{◌≡◌, subst}
use Prim.Native.Nat.{suc, ◌+◌}
use native.Mathlib.Omega.{arith}
use Rattle.node_words.specs.Words.{state_of}
use Rattle.state.specs.declared.State.{State}
use Rattle.state_table.specs.Table.{entry_at, Finds, Probed}
use Rattle.meeting.specs.Meeting.{open_below, Narrow}
use Rattle.meeting.proofs.Meeting.{met_known, met_full, met_new, found_none}
use Rattle.meeting.proofs.meet.Goals as goal
use Rattle.meeting.proofs.meet.Goals.{After-probe-slot, Start}

-- where meet began, from where probing answered
pub probe-slot-requires : goal.probe-slot-requires
probe-slot-requires c =
    let H = c.requires.2.1 in
    (c.args.n, H.tabled)

-- what probing says, for the nodes that are held
probed : (c : After-probe-slot) → let a = c.args in
    Probed a.index.now.table a.words.now a.n (state_of a.x) c.probe-slot.result
probed c =
    let a = c.args in
    subst (λ (s : State). Probed a.index.now.table a.words.now a.n s c.probe-slot.result) c.state.ensures
    (c.probe-slot.ensures a.n c.requires.2.1.tabled)

-- the words of the node have 64 bits
narrow : (c : Start) → Narrow c.args.x
narrow c = (search rules, search rules)

pub offset_bounds-index-slot : goal.offset_bounds-index-slot
offset_bounds-index-slot c = record { fits = omega (arith, (probed c).within) }

pub bounds-index-slot : goal.bounds-index-slot
bounds-index-slot c = (probed (goal.at.bounds-index-slot c).After-probe-slot).within

pub lower-requires : goal.lower-requires
lower-requires c =
    let H = c.requires.2.1 in
    let T = H.tabled in
    (omega (arith, T.known c.probe-slot.result, T.few), record { long = H.long; is_open = open_below c.args.n c.requires.2.0; played = H.played })

pub returns-in-Some-clause-met : goal.returns-in-Some-clause-met
returns-in-Some-clause-met c = λ taken H fresh.
    let a = c.args in
    let p = c.in-Some.p in
    let f : Finds a.words.now a.n (state_of a.x) (suc p) =
    subst (Finds a.words.now a.n (state_of a.x)) c.in-Some.ensures (probed (goal.at.returns-in-Some-clause-met c).After-probe-slot).finds in
    met_known a.limit H (search rules) a.x (narrow (goal.at.returns-in-Some-clause-met c).Start)
    c.lower.new.words c.lower.new.tree p f.0 f.1 c.lower.ensures.lowered (c.lower.ensures.by_index (open_below a.n taken) H.played)

pub returns-then-n-limit-clause-met : goal.returns-then-n-limit-clause-met
returns-then-n-limit-clause-met c = λ taken H fresh.
    let a = c.args in
    let full : a.n ≡ a.limit = search rules in
    met_full a.limit H (search rules) a.x (narrow (goal.at.returns-then-n-limit-clause-met c).Start)
    (found_none a.words.now a.n (state_of a.x) (entry_at a.index.now.table c.probe-slot.result) (search rules) (probed (goal.at.returns-then-n-limit-clause-met c).After-probe-slot).finds)
    (suc a.limit) full (omega arith)

pub add-requires : goal.add-requires
add-requires c =
    let H = c.requires.2.1 in (
      search rules,
      (probed (goal.at.add-requires c).After-probe-slot).within,
      record { long = H.long; is_open = open_below c.args.n c.requires.2.0; played = H.played },
    )

pub returns-clause-met : goal.returns-clause-met
returns-clause-met c = λ taken H fresh.
    let a = c.args in
    let empty : entry_at a.index.now.table c.probe-slot.result ≡ 0 = search rules in
    met_new a.limit H (search rules) a.x (narrow (goal.at.returns-clause-met c).Start)
    (found_none a.words.now a.n (state_of a.x) (entry_at a.index.now.table c.probe-slot.result) empty (probed (goal.at.returns-clause-met c).After-probe-slot).finds)
    (a.n + 1) c.probe-slot.result c.add.new.words c.add.new.index.table c.add.new.index.tree (omega arith) (search rules) (search rules) (probed (goal.at.returns-clause-met c).After-probe-slot).within empty
    (probed (goal.at.returns-clause-met c).After-probe-slot).way c.add.ensures.written.0 c.add.ensures.written.1 (c.add.ensures.by_index (open_below a.n taken) H.played) fresh
