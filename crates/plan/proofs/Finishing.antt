-- The verdict after the last step.
use mathlib.Core.Path.{◌≡◌, refl, sym, ap, ◌∙◌, fun_ext}
use mathlib.Core.Bool.{Bool, true, false, cond}
use mathlib.Core.List.{List, [], map}
use Prim.Native.Nat.{ℕ, ◌+◌, ◌^◌, ◌≤◌, ◌<◌}
use native.Mathlib.Omega.{arith}
use lib.Dec.{ltb}
use lib.ListN.{length, get_or, length-map, get_or-eq_default}
use borrow.Author.Tests.{ltb-true, ltb-false}
use Rattle.lists.specs.Lists.{all, first_failing}
use Rattle.meaning.specs.Task.{Task, Preference}
use Rattle.task.specs.TaskRows.{condition_rows}
use Rattle.meaning.specs.Meaning.{State as Facts, is_true, seen, preference_at}
use Rattle.meaning.specs.Literals.{looked_at, looked_from}
use Rattle.meaning.specs.Monitor.{Monitor, step}
use Rattle.lists.proofs.First.{one_fails, none_fails}
use Rattle.state.specs.Member.{bit, member}
use Rattle.reading.specs.Conditions.{begin, read_as, evaluate_at}
use Rattle.reading.specs.declared.conditions.Evaluated.{Evaluated}
use Rattle.state.specs.declared.State.{State}
use Rattle.state.proofs.Bits.{beyond_law}
use Rattle.state.proofs.Words.{in_low}
use Rattle.monitor.specs.Packed.{monitor_at}
use Rattle.monitors.specs.Monitors.{ForPreferences, Watched}
use Rattle.plan.specs.Walked.{Walk, solved, goal_missed, rule_missed, given}
use Rattle.layout.specs.Counting.{count_at}
use Rattle.monitors.specs.Met.{Met, none_met, found, as_found}
use Rattle.plan.specs.Steps.{state_of, is_accepting, is_safe, solved_by, last_verdict, End}
use Rattle.monitors.specs.declared.met.Found.{Found}
use Rattle.plan.specs.declared.steps.Places.{Places}
use Rattle.plan.specs.declared.steps.Position.{Position}
use Rattle.monitors.proofs.TaskRead.{preferences_there, goal_read}
use Rattle.monitors.proofs.Meeting.{met_is, kept_is, number_is}

module _ (ms vs : List ℕ) (x : Places) (l : List ℕ) (t : Task) (μ : Preference → Monitor) (E : End ms vs x l t μ) (p : Position)
    (e : Evaluated) (read : e ≡ evaluate_at (member (state_of p)) begin ms vs x.goal)
    (l' : List ℕ) (n : ℕ) (watched : ForPreferences ms vs x.preferences (Watched true (member (state_of p)) l l' n)) where
  abbrev σ : Facts
  σ = member (state_of p)

  whole : e ≡ read_as σ t.goal (length t.start + 1 + length (condition_rows t.goal))
  whole = read ∙ ap (evaluate_at σ begin ms vs) E.placed.goal ∙ goal_read t ms vs E.placed.spells σ

  goal_is : e.holds ≡ is_true σ t.goal
  goal_is = ap (λ (x : Evaluated). x.holds) whole

  few : length t.preferences ≤ 16
  few = E.placed.spells.few_preferences

  seen_by_all : Watched true σ l l' n t.preferences
  seen_by_all = watched t.preferences (preferences_there t ms vs E.placed.spells x.preferences E.placed.preferences)

  -- the preferences and the goal are looked at
  looked_is : p.looked + n + e.looked ≡ p.looked + looked_from t σ []
  looked_is =
      let goal_looked : e.looked ≡ looked_at σ t.goal = ap (λ (x : Evaluated). x.looked) whole in
      omega (arith, seen_by_all.literals, goal_looked)

  pub missed : e.holds ≡ false → given goal_missed (p.looked + n + e.looked) ≡ given (last_verdict t σ μ p.cost) (p.looked + looked_from t σ [])
  missed false_one =
      let v : goal_missed ≡ last_verdict t σ μ p.cost = rw (sym goal_is ∙ false_one) in
      λ z. given (v z) (looked_is z)

  abbrev μ' : Preference → Monitor
  μ' q = step q.kind true (μ q) (seen q σ)

  module _ (true_one : e.holds ≡ true)
      (all_found : Found) (says : (vs : List ℕ) → as_found all_found ≡ count_at (found l') none_met ms vs x.preferences) where
    abbrev found_ones : State
    found_ones = all_found.met

    have_seen : (j : ℕ) → j < length t.preferences → monitor_at l' j ≡ μ' (preference_at t j)
    have_seen j h =
        seen_by_all.monitors j h
        ∙ ap (λ (x : Monitor). step (preference_at t j).kind true x (seen (preference_at t j) σ)) (E.monitors j h)

    abbrev outcomes : List Bool
    outcomes = map (is_accepting μ') t.preferences

    found_is : (k : ℕ) → member found_ones k ≡ get_or outcomes k false
    found_is k = ap (λ (f : Met). f.met k) (says vs) ∙ met_is l' μ' ms vs x.preferences t.preferences E.placed.preferences few have_seen k

    -- the met preferences are the low word's bits, and it has no others
    bits : found_ones.low < 2 ^ 64 → (x : ℕ) → bit found_ones.low x ≡ get_or outcomes x false
    bits fits x = go (ltb x 64) refl
      where
        go : (b : Bool) → ltb x 64 ≡ b → bit found_ones.low x ≡ get_or outcomes x false
        go true l = in_low found_ones x (ltb-true x 64 l) ∙ found_is x
        go false l =
            beyond_law 64 found_ones.low x fits (ltb-false x 64 l)
            ∙ sym (get_or-eq_default outcomes false {n = x}
            (omega (arith, ltb-false x 64 l, few, length-map t.preferences (is_accepting μ'))))

    kept : all_found.kept ≡ first_failing (is_safe μ') t.preferences
    kept = ap (λ (f : Met). f.kept) (says vs) ∙ kept_is l' μ' ms vs x.preferences t.preferences E.placed.preferences have_seen

    many : all_found.number ≡ length t.preferences
    many = ap (λ (f : Met). f.number) (says vs) ∙ number_is l' μ' ms vs x.preferences t.preferences E.placed.preferences have_seen

    -- the verdict by whether all are soft or met, and what it is with the goal reached
    abbrev said : Bool → Walk
    said b = cond b (solved p.cost (λ (k : ℕ). get_or outcomes k false)) (rule_missed (first_failing (is_safe μ') t.preferences))

    with_goal : (b : Bool) → all (is_safe μ') t.preferences ≡ b → said b ≡ last_verdict t σ μ p.cost
    with_goal b e = ap said (sym e) ∙ ap (λ (b : Bool). cond b (solved_by t μ' p.cost) goal_missed) (sym (sym goal_is ∙ true_one))

    pub rule_is : all_found.kept < all_found.number
        → given (rule_missed all_found.kept) (p.looked + n + e.looked) ≡ given (last_verdict t σ μ p.cost) (p.looked + looked_from t σ [])
    rule_is h =
        let v : rule_missed all_found.kept ≡ last_verdict t σ μ p.cost =
        ap rule_missed kept ∙ with_goal false (one_fails (is_safe μ') t.preferences (omega (arith, kept, many))) in
        λ z. given (v z) (looked_is z)

    pub solved_is : found_ones.low < 2 ^ 64 → all_found.number ≤ all_found.kept
        → given (solved p.cost (bit found_ones.low)) (p.looked + n + e.looked) ≡ given (last_verdict t σ μ p.cost) (p.looked + looked_from t σ [])
    solved_is fits h =
        let v : solved p.cost (bit found_ones.low) ≡ last_verdict t σ μ p.cost =
        ap (solved p.cost) (fun_ext (bits fits)) ∙ with_goal true (none_fails (is_safe μ') t.preferences (omega (arith, kept, many))) in
        λ z. given (v z) (looked_is z)
