-- No text is longer than 2,048 bytes: a number in it has at most 13 digits, and there are at most 16 preferences.
use mathlib.Core.Path.{◌≡◌, refl, ap}
use mathlib.Core.Bool.{Bool, true, false, cond}
use mathlib.Core.List.{List, [], ◌∷◌, ◌++◌}
use Prim.Native.Nat.{ℕ, zero, suc, ◌+◌, ◌*◌, ◌-◌, ◌^◌, ◌≤◌, ◌<◌}
use native.Mathlib.Omega.{arith}
use lib.Dec.{T, leb, ltb}
use lib.IntN.{pos, negsuc, ◌-ℤ◌}
use lib.ListN.{length, length-append}
use borrow.Author.Tests.{le-leb, leb-true}
use Rattle.lists.specs.Lists.{all, first_failing, concat_from}
use Rattle.meaning.specs.Task.{Kind, always, sometime, at_end, at_most_once, sometime_before, sometime_after, within, always_within, Preference, Task}
use Rattle.task.specs.File.{Sizes, task_of}
use Rattle.task.specs.Check
use Rattle.task.specs.Check.{Answer, accepted, check}
use Rattle.task.specs.Spelling.{preference_spellable, spellable}
use Rattle.meaning.specs.Meaning.{State, opening, after, action_at, applies, runs, final, is_true, is_kept, keeps_rules, cost, met_weight, metric, utility}
use Rattle.meaning.specs.Verdict.{Verdict, solved, steps_applied, met_set, missed_rule, verdict_by, verdict}
use Rattle.lists.proofs.Tests.{tests}
use Rattle.task.proofs.Checking.{within as sizes_within}
use Rattle.task.proofs.Spelled.{accepted_spelling}
use Rattle.plan.specs.Judged.{given, refused, steps_known, judged_by, judged}
use Rattle.plan.proofs.Greatest.{weight_bound, Greatest, greatest}
use Rattle.text.specs.Ascii.{ascii}
use Rattle.text.specs.Text.{decimal, integer}
use Rattle.text.proofs.Decimal.{few_digits}
use Rattle.outcome.specs.Outcome.{written}
use Rattle.report_lines.specs.Lines.{kind_word, full_kind, outcome_word, solved_line, preference_line, amounts_line, stopped_line, rule_missed_line}
use Rattle.report.specs.Report.{preference_lines, verdict_text, report_of, report_on, report_outcome}
use Rattle.task.specs.Limits.{MAX_AMOUNT}

-- Words and numbers

short_kind : (k : Kind) → length (kind_word k) ≤ 15
short_kind always = omega arith
short_kind sometime = omega arith
short_kind at_end = omega arith
short_kind at_most_once = omega arith
short_kind sometime_before = omega arith
short_kind sometime_after = omega arith
short_kind (within t) = omega arith
short_kind (always_within t) = omega arith

short_full_kind : (h : Bool) (k : Kind) → length (full_kind h k) ≤ 20
short_full_kind true k = omega (arith, short_kind k)
short_full_kind false k = omega (arith, short_kind k)

short_outcome : (b : Bool) → length (outcome_word b) ≤ 6
short_outcome true = omega arith
short_outcome false = omega arith

-- beyond every number of a report: the greatest is a metric, below 2,048 + 16 times 2 ^ 32
abbrev BEYOND : ℕ
BEYOND = 10 ^ 13

short_number : (n : ℕ) → n < BEYOND → length (decimal n) ≤ 13
short_number n h = few_digits 12 n h

-- a difference has a minus sign or not
short_difference : (m c : ℕ) → m < BEYOND → c < BEYOND → length (integer (pos m -ℤ pos c)) ≤ 14
short_difference m zero h k = let d : length (decimal (m + 0)) ≤ 13 = short_number (m + 0) (omega arith) in omega (arith, d)
short_difference m (suc c) h k = go (ltb m (suc c))
  where
    go : (b : Bool) → length (integer (cond b (negsuc (suc c - suc m)) (pos (m - suc c)))) ≤ 14
    go true = omega (arith, short_number (suc (suc c - suc m)) (omega arith))
    go false = omega (arith, short_number (m - suc c) (omega arith))

-- Lines

short_solved : (n c : ℕ) → n < BEYOND → c < BEYOND → length (solved_line n c) ≤ 46
unfolding solved_line
short_solved n c h k =
    omega (
      arith,
      length-append (ascii "solved steps " ++ decimal n ++ ascii " cost " ++ decimal c) (ascii "\n"),
      length-append (ascii "solved steps " ++ decimal n ++ ascii " cost ") (decimal c),
      length-append (ascii "solved steps " ++ decimal n) (ascii " cost "),
      length-append (ascii "solved steps ") (decimal n),
      short_number n h,
      short_number c k,
    )

short_stopped : (n : ℕ) → n < BEYOND → length (stopped_line n) ≤ 22
unfolding stopped_line
short_stopped n h = omega (arith, length-append (ascii "stopped " ++ decimal n) (ascii "\n"), length-append (ascii "stopped ") (decimal n), short_number n h)

short_rule : (n : ℕ) → n < BEYOND → length (rule_missed_line n) ≤ 26
unfolding rule_missed_line
short_rule n h =
    omega (arith, length-append (ascii "rule missed " ++ decimal n) (ascii "\n"), length-append (ascii "rule missed ") (decimal n), short_number n h)

short_preference : (k w : ℕ) (hard : Bool) (kind : Kind) (b : Bool) → k < BEYOND → w < BEYOND
    → length (preference_line k hard kind w b) ≤ 56
unfolding preference_line
short_preference k w hard kind b h l =
    let first : List ℕ = decimal k ++ ascii " " ++ full_kind hard kind in
    let second : List ℕ = first ++ ascii " " ++ decimal w in
    omega (
      arith,
      length-append (second ++ ascii " " ++ outcome_word b) (ascii "\n"),
      length-append (second ++ ascii " ") (outcome_word b),
      length-append second (ascii " "),
      length-append (first ++ ascii " ") (decimal w),
      length-append first (ascii " "),
      length-append (decimal k ++ ascii " ") (full_kind hard kind),
      length-append (decimal k) (ascii " "),
      short_number k h,
      short_number w l,
      short_full_kind hard kind,
      short_outcome b,
    )

short_amounts : (m g c : ℕ) → m < BEYOND → g < BEYOND → c < BEYOND → length (amounts_line m (pos g -ℤ pos c)) ≤ 44
unfolding amounts_line
short_amounts m g c h k l =
    let metric_part : List ℕ = ascii "metric " ++ decimal m ++ ascii " utility " in
    omega (
      arith,
      length-append (metric_part ++ integer (pos g -ℤ pos c)) (ascii "\n"),
      length-append metric_part (integer (pos g -ℤ pos c)),
      length-append (ascii "metric " ++ decimal m) (ascii " utility "),
      length-append (ascii "metric ") (decimal m),
      short_number m h,
      short_difference g c k l,
    )

-- The preferences, each of a weight that is allowed

short_lines : (met : ℕ → Bool) (k : ℕ) (qs : List Preference) → k + length qs ≤ 16 → T (all preference_spellable qs)
    → length (concat_from (λ (k : ℕ) (q : Preference). preference_line k q.hard q.kind q.weight (met k)) k qs) ≤ 56 * length qs
short_lines met k [] h t = omega arith
short_lines met k (q ∷ qs) h t =
    let w : q.weight ≤ MAX_AMOUNT = weight_bound q.hard q.weight (search tests) in
    omega (
      arith,
      length-append (preference_line k q.hard q.kind q.weight (met k))
          (concat_from (λ (k : ℕ) (q : Preference). preference_line k q.hard q.kind q.weight (met k)) (k + 1) qs),
      short_preference k q.weight q.hard q.kind (met k) (omega arith) (omega (arith, w)),
      short_lines met (k + 1) qs (omega arith) (search tests),
    )

few_applied : (t : Task) (s : State) (p : List ℕ) → steps_applied t s p ≤ length p
few_applied t s [] = omega arith
few_applied t s (k ∷ ks) = go (applies t s k) (few_applied t (after s (action_at t k)) ks)
  where
    go : (b : Bool) → steps_applied t (after s (action_at t k)) ks ≤ length ks
        → cond b (suc (steps_applied t (after s (action_at t k)) ks)) 0 ≤ suc (length ks)
    go true rest = omega (arith, rest)
    go false rest = omega arith

few_kept : {A : Type 0} (ok : A → Bool) (xs : List A) → first_failing ok xs ≤ length xs
few_kept ok [] = omega arith
few_kept ok (x ∷ xs) = go (ok x) (few_kept ok xs)
  where
    go : (b : Bool) → first_failing ok xs ≤ length xs → cond b (suc (first_failing ok xs)) 0 ≤ suc (length xs)
    go true rest = omega (arith, rest)
    go false rest = omega arith

-- The text of a verdict

module _ (t : Task) (spelling : T (spellable t)) (few : length t.preferences ≤ 16) (p : List ℕ) (short : length p ≤ 2048) where
  amounts : Greatest t p
  amounts = greatest t spelling few p short

  short_solution : length (verdict_text (preference_lines t) (length p) (solved (cost t p) (metric t p) (utility t p) (met_set t p))) ≤ 2048
  short_solution =
      let first : List ℕ = solved_line (length p) (cost t p) in
      let lines : List ℕ = preference_lines t (met_set t p) in
      omega (
        arith,
        few,
        length-append (first ++ lines) (amounts_line (metric t p) (utility t p)),
        length-append first lines,
        short_solved (length p) (cost t p) (omega (arith, short)) (omega (arith, amounts.spent)),
        short_lines (met_set t p) 0 t.preferences (omega (arith, few)) (search tests),
        short_amounts (metric t p) (met_weight t p) (cost t p) (omega (arith, amounts.paid)) (omega (arith, amounts.met_weights)) (omega (arith, amounts.spent)),
      )

  short_verdict : length (verdict_text (preference_lines t) (length p) (verdict t p)) ≤ 2048
  unfolding verdict
  short_verdict = go (runs t (opening t) p) (is_true (final t p) t.goal) (keeps_rules t p)
    where
      go : (x y k : Bool) → length (verdict_text (preference_lines t) (length p) (verdict_by t p x y k)) ≤ 2048
      go true true true = short_solution
      go true true false = omega (arith, short_rule (missed_rule t p) (omega (arith, few, few_kept (is_kept t p) t.preferences)))
      go true false k = omega arith
      go false y k =
          omega (arith, short_stopped (steps_applied t (opening t) p) (omega (arith, short, few_applied t (opening t) p)))

pub longest : (b p : List ℕ) → length (report_on b p) ≤ 2048
unfolding report_on judged
longest b p = go (check b) refl
  where
    go : (a : Answer) → check b ≡ a → length (report_of (task_of b) (length p) (judged_by b p a)) ≤ 2048
    go (Check.refused n i) h = omega arith
    go (accepted z) h = on_task (leb (length p) 2048) refl (all (λ (k : ℕ). ltb k z.actions) p)
      where
        on_task : (x : Bool) → leb (length p) 2048 ≡ x → (y : Bool)
            → length (report_of (task_of b) (length p) (cond x (cond y (given (verdict (task_of b) p)) (refused 11 (steps_known z.actions p))) (refused 10 0))) ≤ 2048
        on_task true e true =
            let s = accepted_spelling b z h in
            let few : length (task_of b).preferences ≤ 16 = omega (arith, sizes_within z s.allowed, ap (λ (y : Sizes). y.preferences) s.sized) in
            short_verdict (task_of b) s.spelling few p (leb-true (length p) 2048 e)
        on_task true e false = omega arith
        on_task false e y = omega arith

-- so an area of that length is never refused by 9
pub never_too_short : (b p : List ℕ) (v : Verdict) → judged b p ≡ given v → (room : ℕ) → 2048 ≤ room
    → report_outcome b p room ≡ written (length (report_on b p))
unfolding report_outcome
never_too_short b p v e room h =
    let fits : length (report_on b p) ≤ room = omega (arith, h, longest b p) in
    rw (e, le-leb (length (report_on b p)) room fits)
