-- Hard rules that no plan meets: the translation has no solution.
use mathlib.Core.Path.{◌≡◌, refl}
use mathlib.Core.Bool.{false, ◌&&◌}
use mathlib.Core.List.{List, [], ◌∷◌}
use Prim.Native.Nat.{ℕ, ◌+◌, ◌*◌, ◌≤◌}
use lib.Dec.{T, leb→le}
use Rattle.task.specs.Marks.{ACTION, EFFECT, CLAUSE, HOLDS, LACKS, ADD, DELETE, GOAL, START, ALWAYS, SOMETIME, HARD}
use Rattle.meaning.specs.Task.{Task, well_formed}
use Rattle.task.specs.TaskRows.{row}
use Rattle.task.specs.File.{Sizes, file_of_rows, task_of}
use Rattle.task.specs.Check.{check, check_rows, accepted}
use Rattle.meaning.specs.Meaning.{is_true, opening, runs, final, keeps_rules, solves}
use Rattle.meaning.specs.Verdict.{verdict, rule_missed}
use Rattle.classical.specs.Translation.{further, translated, compiled, compiled_rows}
use Rattle.classical.specs.Claim.{None}
use Rattle.lists.proofs.Tests.{never, and_left, and_right}
use Rattle.classical.proofs.Faithful.{faithful}
use Rattle.classical.proofs.Written.{written}

-- each plan that reaches the goal misses a hard rule
abbrev pub Unmet : Task → Type 0
Unmet t = (p : List ℕ) → T (runs t (opening t) p && is_true (final t p) t.goal) → keeps_rules t p ≡ false

none_solves : (t : Task) → Unmet t → None (solves t)
none_solves t unmet p h =
    let reaches = runs t (opening t) p && is_true (final t p) t.goal in
    never (and_right reaches (keeps_rules t p) h) (unmet p (and_left reaches (keeps_rules t p) h))

pub no_solution : (t : Task) → T (well_formed t) → Unmet t → None (solves (translated t))
no_solution t wf unmet = (faithful t wf).none.1 (none_solves t unmet)

-- for files
pub none_written : (b : List ℕ) (z : Sizes) → check b ≡ accepted z
    → z.facts + 3 * z.preferences + 2 + further (task_of b).preferences ≤ 128 → z.actions + 2 * z.preferences + 1 ≤ 128 → compiled_rows b ≤ 12000
    → Unmet (task_of b) → None (solves (task_of (compiled b)))
none_written b z h f a n unmet = (written b z h f a n).faithfully.none.1 (none_solves (task_of b) unmet)

-- The belt, where amber may never be on it: it lies there in the opening state

abbrev strict_belt : List ℕ
strict_belt =
    file_of_rows 2 2 2
    (row START 1
    ∷ row GOAL 0 ∷ row CLAUSE 0 ∷ row LACKS 1
    ∷ row ACTION 3 ∷ row EFFECT 0 ∷ row ADD 0 ∷ row DELETE 1
    ∷ row ACTION 1 ∷ row EFFECT 0 ∷ row ADD 1 ∷ row DELETE 0
    ∷ row (ALWAYS + HARD) 0 ∷ row CLAUSE 0 ∷ row LACKS 1
    ∷ row SOMETIME 7 ∷ row CLAUSE 0 ∷ row HOLDS 0
    ∷ [])

abbrev strict_sizes : Sizes
strict_sizes = record { facts = 2; actions = 2; preferences = 2; rows = 18 }

belt_accepted : check strict_belt ≡ accepted strict_sizes
unfolding check check_rows
belt_accepted = refl

-- document 01's plan still reaches the goal
belt_verdict : verdict (task_of strict_belt) (0 ∷ []) ≡ rule_missed 0
unfolding verdict
belt_verdict = refl

belt_none : None (solves (task_of (compiled strict_belt)))
unfolding translated
belt_none =
    none_written strict_belt strict_sizes belt_accepted
    (leb→le 10 128 tt) (leb→le 7 128 tt) (leb→le 95 12000 tt) (λ p h. refl)
