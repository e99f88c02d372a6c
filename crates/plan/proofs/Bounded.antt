-- Walk looks at no more literals than (steps + 1) × N.
use mathlib.Core.Path.{◌≡◌, refl, sym, ap, ◌∙◌, subst}
use mathlib.Core.Bool.{Bool, true, false, cond}
use mathlib.Core.List.{List}
use Prim.Native.Nat.{ℕ, ◌+◌, ◌*◌, ◌≤◌}
use native.Mathlib.Omega.{arith}
use lib.Dec.{leb, ltb}
use lib.ListN.{length}
use Rattle.lists.specs.Lists.{all}
use Rattle.task.specs.TaskRows.{task_rows}
use Rattle.task.specs.File
use Rattle.task.specs.File.{sizes, task_of}
use Rattle.task.specs.Check
use Rattle.task.specs.Check.{Answer, check}
use Rattle.meaning.specs.Verdict.{verdict}
use Rattle.meaning.specs.Literals.{literals}
use Rattle.task.proofs.Bytes.{rows-length}
use Rattle.task.proofs.Spelled.{Spelling, accepted_spelling}
use Rattle.task.proofs.FewLiterals.{few_literals}
use Rattle.plan.specs.Judged.{Judged, steps_known, judged_by, judged}
use Rattle.plan.specs.Walked.{Walk, Walked, given, refused, without_worth, walked}

-- a refusal has none
abbrev looked : Walked → ℕ
looked (given v n) = n
looked (refused n i) = 0

module _ (b p : List ℕ) where
  abbrev limit : ℕ
  limit = (length p + 1) * (sizes b).rows

  on_task : (z : File.Sizes) → check b ≡ Check.accepted z → literals (task_of b) p ≤ limit
  on_task z h =
      let s : Spelling b z = accepted_spelling b z h in
      let exact : length b ≡ 8 + 5 * (sizes b).rows = s.exact ∙ ap (λ (x : File.Sizes). 8 + 5 * x.rows) s.same in
      let many : length (task_rows (task_of b)) ≡ (sizes b).rows = ap length (sym s.spelled) ∙ rows-length b exact in
      subst (λ (n : ℕ). literals (task_of b) p ≤ (length p + 1) * n) many (few_literals (task_of b) p)

  looked_few : looked (walked b p) ≤ limit
  unfolding judged walked
  looked_few = go (check b) refl
    where
      go : (a : Answer) → check b ≡ a → looked (without_worth (literals (task_of b) p) (judged_by b p a)) ≤ limit
      go (Check.refused n i) h = omega arith
      go (Check.accepted z) h = steps (leb (length p) 2048) (all (λ (k : ℕ). ltb k z.actions) p)
        where
          steps : (x y : Bool)
              → looked (without_worth (literals (task_of b) p)
              (cond x (cond y (Judged.given (verdict (task_of b) p)) (Judged.refused 11 (steps_known z.actions p))) (Judged.refused 10 0)))
              ≤ limit
          steps true true = on_task z h
          steps true false = omega arith
          steps false y = omega arith

  pub literals_bounded : (v : Walk) (n : ℕ) → walked b p ≡ given v n → n ≤ (length p + 1) * (sizes b).rows
  literals_bounded v n e = subst (λ (w : Walked). looked w ≤ limit) e looked_few
