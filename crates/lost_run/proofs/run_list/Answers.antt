-- What is read before the first action is the beginning of a list on the task that the rows spell.
use borrow.Author.Rules.{rules}
use mathlib.Core.Path.{◌≡◌, refl, ap, ◌∙◌, subst⁻¹}
use mathlib.Core.List.{List}
use Prim.Native.Nat.{ℕ, ◌-◌}
use native.Mathlib.Nat.{sub-zero}
use native.Mathlib.Omega.{arith}
use lib.ListN.{length, take, get_or}
use Rattle.meaning.specs.Task.{Task}
use Rattle.reading.specs.Effects.{Result}
use Rattle.layout.specs.Rows.{PreferencesAt}
use Rattle.layout.specs.Actions.{actions_from, AllBelow}
use Rattle.layout.specs.Sides.{starts_from}
use Rattle.layout.proofs.ActionRows.{within_rows_lem, as_many, noted}
use Rattle.monitor.proofs.Packing.{fresh_at}
use Rattle.monitors.proofs.TaskRead.{opening_read, preferences_read}
use Rattle.lost_run.specs.Run.{Rules, Setting, Opens, Source}
use Rattle.lost_run.proofs.Noting.{noted_rules}
use Rattle.lost_run.proofs.run_list.Goals as goal
use Rattle.lost_run.proofs.run_list.Goals.{After-note_actions-acting, After-note_starts}

-- the rows that are lent are those of the actions
acting : (c : After-note_actions-acting) → take (c.note_actions-acting.result - 0) c.note_actions-acting.new.starts ≡ actions_from 0 c.args.rows.now.marks.now
acting c = ap (λ (n : ℕ). take n c.note_actions-acting.new.starts) (sub-zero c.note_actions-acting.result) ∙ c.note_actions-acting.ensures.1

-- and those of the rules
ruling : (c : After-note_starts) → take (c.args.many - 0) c.note_starts.new.starts ≡ starts_from c.args.rows.now.marks.now c.first_preference-at.result c.args.many
ruling c =
    ap (λ (n : ℕ). take n c.note_starts.new.starts) (sub-zero c.args.many) ∙ c.note_starts.ensures

-- what stands before the first action
begun : (c : After-note_starts) → (t : Task) → Source c.args.rows.now.marks.now c.args.rows.now.values.now c.args.many t
    → Setting c.args.rows.now.marks.now c.args.rows.now.values.now c.first_preference-at.result (take (c.note_actions-acting.result - 0) c.note_actions-acting.new.starts)
    (take (c.args.many - 0) c.note_starts.new.starts) t × Opens c.opening-start.result.state t
begun c t S =
    let acting' : take (c.note_actions-acting.result - 0) c.note_actions-acting.new.starts ≡ actions_from 0 c.args.rows.now.marks.now = ap (λ (n : ℕ). take n c.note_actions-acting.new.starts) (sub-zero c.note_actions-acting.result) ∙ c.note_actions-acting.ensures.1 in
    let ms = c.args.rows.now.marks.now in
    let vs = c.args.rows.now.values.now in
    let there = subst⁻¹ (PreferencesAt t ms vs) c.first_preference-at.ensures.0 (preferences_read t ms vs S.spells) in
    let all = ap length acting' ∙ as_many t ms vs S.spells in (
      record {
        spells = S.spells;
        preferences = there;
        all_actions = all;
        few_actions = omega (arith, ap length acting', c.requires.rows.1);
        actions = λ k h. ap (λ (l : List ℕ). get_or l k 0) acting' ∙ noted t ms vs S.spells k h;
        all_rules = subst⁻¹ (λ (l : List ℕ). Rules ms vs l t) (ruling c) (noted_rules t ms vs S.spells c.first_preference-at.result there c.args.many S.many);
      },
      ap (λ (r : Result). r.state) (c.opening-start.ensures ∙ opening_read t ms vs S.spells),
    )

pub note_starts-requires : goal.note_starts-requires
note_starts-requires c =
    let few = c.requires.source.1.spells.few_preferences in
    let many = c.requires.source.1.many in
    search rules

pub slice_bounds-follow-end-2 : goal.slice_bounds-follow-end-2
slice_bounds-follow-end-2 c =
    let few = c.requires.source.1.spells.few_preferences in
    let many = c.requires.source.1.many in
    search rules

pub follow-requires : goal.follow-requires
follow-requires c =
    let ms = c.args.rows.now.marks.now in
    let g = begun (goal.at.follow-requires c).After-note_starts c.requires.source.0 c.requires.source.1 in record {
      rows = (c.requires.rows.0, record { sixteen = refl; seen_none = fresh_at 16 });
      all_below = (subst⁻¹ (AllBelow (length ms)) (acting (goal.at.follow-requires c).After-note_actions-acting) (within_rows_lem ms), (c.requires.source.0, g.0, g.1));
    }

pub returns : goal.returns
returns c = λ t S.
    let g = begun (goal.at.returns c).After-note_starts t S in
    c.follow.ensures t g.0 g.1
