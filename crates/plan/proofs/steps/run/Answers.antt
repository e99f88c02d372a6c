-- What is read before the first step is the start of the task that the rows spell, by `TaskRead` and `ActionRows`.
use borrow.Author.Rules.{rules}
use mathlib.Core.Path.{◌≡◌, refl, ap, ◌∙◌, subst⁻¹}
use mathlib.Core.List.{List}
use Prim.Native.Nat.{ℕ, ◌+◌, ◌-◌, ◌≤◌}
use native.Mathlib.Nat.{sub-zero}
use native.Mathlib.Omega.{arith}
use lib.ListN.{length, take, get_or}
use Rattle.reading.specs.Effects.{Result}
use Rattle.reading.proofs.OpeningRows.{opening_ends}
use Rattle.meaning.specs.Task.{Task}
use Rattle.layout.specs.Rows.{Spells, PreferencesAt}
use Rattle.layout.specs.Actions.{actions_from, AllBelow}
use Rattle.monitor.proofs.Packing.{fresh_at}
use Rattle.layout.proofs.ActionRows.{within_rows_lem, as_many, noted}
use Rattle.plan.specs.Steps.{Start}
use Rattle.monitors.proofs.TaskRead.{opening_read, preferences_read}
use Rattle.plan.proofs.steps.run.Goals as goal
use Rattle.plan.proofs.steps.run.Goals.{After-note_actions-many, After-opening-start}

-- the goal stands within the rows
few : (c : After-opening-start) → c.opening-start.result.next ≤ length c.args.rows.now.marks.now
few c =
    let a = c.args in
    omega (arith, opening_ends a.rows.now.marks.now a.rows.now.values.now, ap (λ (r : Result). r.next) c.opening-start.ensures)

-- the rows that are lent are those of the actions
lent : (c : After-note_actions-many) → take (c.note_actions-many.result - 0) c.note_actions-many.new.starts ≡ actions_from 0 c.args.rows.now.marks.now
lent c = ap (λ (n : ℕ). take n c.note_actions-many.new.starts) (sub-zero c.note_actions-many.result) ∙ c.note_actions-many.ensures.1

pub overflow_add-goal : goal.overflow_add-goal
overflow_add-goal c = let f = few (goal.at.overflow_add-goal c).After-opening-start in search rules

-- what stands before the first step
begun : (c : After-note_actions-many) → let a = c.args in
    (t : Task) → Spells a.rows.now.marks.now a.rows.now.values.now t
    → Start a.rows.now.marks.now a.rows.now.values.now (record { preferences = c.first_preference-preferences.result; goal = c.opening-start.result.next + 1 })
    (take (c.note_actions-many.result - 0) c.note_actions-many.new.starts) c.opening-start.result.state t
begun c t R =
    let a = c.args in
    let read = c.opening-start.ensures ∙ opening_read t a.rows.now.marks.now a.rows.now.values.now R in
    record {
      placed =
          record {
            spells = R;
            preferences =
                subst⁻¹ (PreferencesAt t a.rows.now.marks.now a.rows.now.values.now) c.first_preference-preferences.ensures.0
                (preferences_read t a.rows.now.marks.now a.rows.now.values.now R);
            goal = ap (λ (r : Result). r.next + 1) read;
          };
      all_actions = ap length (lent c) ∙ as_many t a.rows.now.marks.now a.rows.now.values.now R;
      actions = λ k h. ap (λ (l : List ℕ). get_or l k 0) (lent c) ∙ noted t a.rows.now.marks.now a.rows.now.values.now R k h;
      opens = ap (λ (r : Result). r.state) read;
    }

pub follow-requires : goal.follow-requires
follow-requires c =
    let marks = c.args.rows.now.marks.now in record {
      rows = search rules;
      all_below = (
        subst⁻¹ (AllBelow (length marks)) (lent (goal.at.follow-requires c).After-note_actions-many) (within_rows_lem marks),
        subst⁻¹ (λ (l : List ℕ). AllBelow (length l) c.args.plan.now) (lent (goal.at.follow-requires c).After-note_actions-many) c.requires.marks_len_bound.1,
        record { sixteen = refl; seen_none = fresh_at 16 },
      );
      start = (c.requires.rows.1.0, begun (goal.at.follow-requires c).After-note_actions-many c.requires.rows.1.0 c.requires.rows.1.1);
    }

pub returns : goal.returns
returns c = λ t R. c.follow.ensures t (begun (goal.at.returns c).After-note_actions-many t R)
