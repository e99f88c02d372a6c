-- What is read before the first turn opens the search of the task that the rows spell, by `Begun`.
use borrow.Author.Rules.{rules}
use mathlib.Core.Path.{◌≡◌, refl, ap, ◌∙◌, subst⁻¹}
use mathlib.Core.Bool.{false}
use mathlib.Core.List.{List}
use Prim.Native.Nat.{ℕ, ◌+◌, ◌-◌, ◌≤◌}
use native.Mathlib.Nat.{sub-zero}
use native.Mathlib.Omega.{arith}
use lib.ListN.{length, take, get_or}
use Rattle.meaning.specs.Task.{Task}
use Rattle.reading.specs.Effects.{Result}
use Rattle.reading.proofs.OpeningRows.{opening_ends}
use Rattle.layout.specs.Rows.{Spells}
use Rattle.layout.specs.Actions.{actions_from, AllBelow}
use Rattle.layout.proofs.ActionRows.{within_rows_lem, as_many, noted}
use Rattle.monitors.proofs.TaskRead.{opening_read}
use Rattle.expanding.specs.Expanding.{Listed}
use Rattle.exploring.specs.Exploring.{Opened}
use Rattle.finding.proofs.Begun.{held_none, opened}
use Rattle.finding.proofs.run.on_rows.Goals as goal
use Rattle.finding.proofs.run.on_rows.Goals.{After-meet, After-note_actions-many, After-opening-start}

-- the goal stands within the rows
few : (c : After-opening-start) → c.opening-start.result.next ≤ length c.args.rows.now.marks.now
few c =
    let a = c.args in
    omega (arith, opening_ends a.rows.now.marks.now a.rows.now.values.now, ap (λ (r : Result). r.next) c.opening-start.ensures)

pub overflow_add-goal : goal.overflow_add-goal
overflow_add-goal c = let f = few (goal.at.overflow_add-goal c).After-opening-start in search rules

-- the rows that are lent are those of the actions
module _ (c : After-note_actions-many) where
  abbrev starts : List ℕ
  starts = take (c.note_actions-many.result - 0) c.note_actions-many.new.starts

  lent : starts ≡ actions_from 0 c.args.rows.now.marks.now
  lent = ap (λ (k : ℕ). take k c.note_actions-many.new.starts) (sub-zero c.note_actions-many.result) ∙ c.note_actions-many.ensures.1

  listed : (t : Task) → Spells c.args.rows.now.marks.now c.args.rows.now.values.now t → Listed c.args.rows.now.marks.now c.args.rows.now.values.now starts t
  listed t R =
      record {
        rows = c.args.rows.now.fit;
        spells = R;
        all_actions = ap length lent ∙ as_many t c.args.rows.now.marks.now c.args.rows.now.values.now R;
        few_actions = subst⁻¹ (λ (l : List ℕ). length l ≤ 128) lent c.requires.rows.1;
        noted = λ k h. ap (λ (l : List ℕ). get_or l k 0) lent ∙ noted t c.args.rows.now.marks.now c.args.rows.now.values.now R k h;
        inside = subst⁻¹ (AllBelow (length c.args.rows.now.marks.now)) lent (within_rows_lem c.args.rows.now.marks.now);
      }

pub meet-requires : goal.meet-requires
meet-requires c =
    (omega arith, c.requires.node_limit.0.few, ((λ i. false), held_none c.args.words.now _ _ (λ i. false) c.requires.node_limit.1 refl refl))

-- the opening node has been met
begun : (c : After-meet) → (t : Task) → Spells c.args.rows.now.marks.now c.args.rows.now.values.now t
    → Opened (c.opening-start.result.next + 1) c.meet.new.words c.meet.new.index.table c.meet.new.index.tree t
begun c t R =
    let p = c.requires.node_limit in
    let read = c.opening-start.ensures ∙ opening_read t c.args.rows.now.marks.now c.args.rows.now.values.now R in
    opened t R.formed (ap (λ (r : Result). r.next + 1) read) c.opening-start.result.state (ap (λ (r : Result). r.state) read) p.0.some
    (c.meet.ensures.met (λ i. false) (held_none c.args.words.now _ _ (λ i. false) p.1 refl refl) refl)

pub explore-requires : goal.explore-requires
explore-requires c =
    let at = goal.at.explore-requires c in
    let p = c.requires.rows.0 in
    record {
      node_limit = c.requires.node_limit.0;
      listed = (p.0, listed at.After-note_actions-many p.0 p.1, begun at.After-meet p.0 p.1);
    }

pub returns : goal.returns
returns c = λ t R.
    let at = goal.at.returns c in
    c.explore.ensures t (listed at.After-note_actions-many t R) (begun at.After-meet t R)
