-- 8,192 bytes hold the text of every plan that a search finds, and it is read as that plan.
use mathlib.Core.Path.{◌≡◌, refl, ap}
use mathlib.Core.Bool.{true, ◌&&◌, true≢false}
use mathlib.Core.List.{List, [], ◌∷◌, ◌++◌}
use Prim.Native.Nat.{ℕ, ◌≤◌}
use native.Mathlib.Omega.{arith}
use lib.ListN.{length, drop, length-append}
use borrow.Author.Tests.{lt-ltb}
use Rattle.lists.proofs.Tests.{as_t, as_true, both_true}
use Rattle.meaning.specs.Task.{Task}
use Rattle.meaning.specs.Meaning.{State, opening, after, action_at, applies, runs, final, is_true, keeps_rules, solves}
use Rattle.meaning.proofs.WellFormed.{action_count}
use Rattle.task.specs.File.{Sizes, task_of}
use Rattle.task.specs.Check
use Rattle.task.specs.Check.{check}
use Rattle.task.proofs.Checking.{within}
use Rattle.task.proofs.Spelled.{Spelling, accepted_spelling}
use Rattle.task.proofs.Amounts.{cost_bound}
use Rattle.text.specs.Ascii.{ascii}
use Rattle.text.specs.Text.{decimal}
use Rattle.text.proofs.Decimal.{few_digits}
use Rattle.text.proofs.Writing.{written_whole}
use Rattle.plan_lines.specs.PlanText.{text_of, plan, read_plan}
use Rattle.plan_lines.proofs.Returned.{bytes, text_length}
use Rattle.searching.proofs.Invariant.{applies_below}
use Rattle.searched.specs.Searched.{found, search_by, search_file}
use Rattle.searched.proofs.Claimed.{search_claim}
use Rattle.planned.specs.Planned.{planned_text, area_after}
use Rattle.planned.proofs.ReadBack.{planned_back}

-- the steps of a list that runs are actions
runs_bytes : (t : Task) → action_count t ≤ 128 → (s : State) (p : List ℕ) → runs t s p ≡ true → bytes p ≡ true
runs_bytes t few s [] e = refl
runs_bytes t few s (k ∷ ks) e =
    let both = both_true (applies t s k) (runs t (after s (action_at t k)) ks) e in
    rw (lt-ltb k 256 (omega (arith, applies_below t s k both.0, few))) (runs_bytes t few (after s (action_at t k)) ks both.1)

-- a file on which a plan is found is accepted
found_accepted : (b : List ℕ) (limit room : ℕ) (p : List ℕ) (c : ℕ) (a : Check.Answer) → check b ≡ a
    → (search_by b limit room a).answer ≡ found p c → (z : Sizes) × (check b ≡ Check.accepted z)
found_accepted b limit room p c (Check.refused n i) e q = absurd (true≢false (cc q))
found_accepted b limit room p c (Check.accepted z) e q = (z, e)

module _ (b : List ℕ) (limit room : ℕ) (p : List ℕ) (c : ℕ) (e : (search_file b limit room).answer ≡ found p c) where
  is_accepted_lem : (z : Sizes) × (check b ≡ Check.accepted z)
  unfolding search_file
  is_accepted_lem = found_accepted b limit room p c (check b) refl e

  spelling : Spelling b is_accepted_lem.0
  spelling = accepted_spelling b is_accepted_lem.0 is_accepted_lem.1

  few_actions : action_count (task_of b) ≤ 128
  few_actions = omega (arith, within is_accepted_lem.0 spelling.allowed, ap (λ (z : Sizes). z.actions) spelling.sized)

  few_steps : length p ≤ 1023
  few_steps = (search_claim b limit room).short p c e

  of_bytes : bytes p ≡ true
  of_bytes =
      let t = task_of b in
      let reaches = (both_true (runs t (opening t) p && is_true (final t p) t.goal) (keeps_rules t p)
      (as_true (solves t p) ((search_claim b limit room).plan p c e).solution)).0 in
      runs_bytes t few_actions (opening t) p (both_true (runs t (opening t) p) (is_true (final t p) t.goal) reaches).0

  few_digits_cost : length (decimal c) ≤ 13
  few_digits_cost =
      few_digits 12 c (omega (arith, (search_claim b limit room).priced p c e, cost_bound (task_of b) spelling.spelling p, few_steps))

  pub longest : length (planned_text p c) ≤ 8192
  unfolding planned_text
  longest =
      omega (
        arith,
        length-append (text_of p) (ascii "; cost = " ++ (decimal c ++ ascii "\n")),
        length-append (decimal c) (ascii "\n"),
        length-append (ascii "; cost = ") (decimal c ++ ascii "\n"),
        text_length p (as_t of_bytes),
        few_steps,
        few_digits_cost,
      )

  -- an area of that length begins with the whole text
  pub enough : (area : List ℕ) → 8192 ≤ length area → area_after (found p c) area ≡ planned_text p c ++ drop (length (planned_text p c)) area
  enough area h = written_whole (planned_text p c) area (omega (arith, longest))

  pub found_back : read_plan (planned_text p c) ≡ plan p
  found_back = planned_back c p of_bytes (omega (arith, few_steps)) (omega (arith, longest))
