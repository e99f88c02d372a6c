-- Wrong definitions of the way back, refuted on the belt: parts of a list that are not its source part, and 12 tried after 11.
use mathlib.Core.Path.{◌≡◌, refl}
use mathlib.Core.Bool.{not, cond}
use mathlib.Core.List.{List, [], ◌∷◌, ◌++◌}
use Prim.Native.Nat.{ℕ, ◌<◌}
use lib.Dec.{T, leb, ltb}
use lib.ListN.{length}
use Rattle.lists.proofs.Tests.{denied}
use Rattle.lists.specs.Lists.{all, filter}
use Rattle.task.specs.File.{Sizes}
use Rattle.task.specs.Check.{check, check_rows}
use Rattle.task.specs.Refused.{STEP}
use Rattle.task.proofs.Belt.{belt}
use Rattle.meaning.specs.Task.{Task}
use Rattle.meaning.specs.Meaning.{solves}
use Rattle.meaning.proofs.DocumentExamples.{belt_task}
use Rattle.classical.specs.Claim.{source_part, Faithful}
use Rattle.classical.specs.Translation.{translated, translated_actions}
use Rattle.classical.proofs.Faithful.{faithful}
use Rattle.outcome.specs.Outcome.{Outcome, refused}
use Rattle.text.specs.Ascii.{ascii}
use Rattle.text.specs.Text.{decimal}
use Rattle.plan.specs.Judged.{steps_known}
use Rattle.plan.proofs.Walking.{not-all_known}
use Rattle.plan_lines.specs.PlanText.{NEWLINE, step_line, Lines, rest, ended, lines_of, Line, comment, step, other, line_of, read_plan, faulty}
use Rattle.plan_text.specs.Outcomes.{read_outcome}
use Rattle.translation.specs.Translated
use Rattle.translation.specs.Measured.{Measured, within, measured}
use Rattle.source.specs.Source.{below, outcome}

-- What the whole way claims of a part of the list, taken with the source's A: it solves, where the list solves a faithful translation

pub record Solving (part : ℕ → List ℕ → List ℕ) : Type 0 where
  pub way : (s c : Task) → Faithful s c → (x : List ℕ) → T (solves c x) → T (solves s (part (length s.actions) x))

pub right : Solving below
right = record { way = λ s c f x h. (f.onto (source_part s x)).0 (x, h, refl) }

-- a list that solves the belt's translation, and whose part does not solve
wrong_part : (part : ℕ → List ℕ → List ℕ) (x : List ℕ) → T (solves (translated belt_task) x) → T (not (solves belt_task (part 2 x))) → Solving part → ⊥
wrong_part part x h n s = denied (solves belt_task (part 2 x)) n (s.way belt_task (translated belt_task) (faithful belt_task tt) x h)

-- The number of end is kept. There 2 is end, 4 forgoes preference 0, 5 collects 1; the part is 0 2

abbrev end_kept : ℕ → List ℕ → List ℕ
end_kept A = filter (λ (k : ℕ). leb k A)

pub end_kept_lem : Solving end_kept → ⊥
unfolding translated
end_kept_lem = wrong_part end_kept (0 ∷ 2 ∷ 4 ∷ 5 ∷ []) tt tt

-- The last step comes first: 1 0 leaves the belt swept, 0 1 does not

abbrev turned : List ℕ → List ℕ
turned [] = []
turned (k ∷ x) = turned x ++ (k ∷ [])

pub turned_round : Solving (λ A x. turned (below A x)) → ⊥
unfolding translated
turned_round = wrong_part (λ A x. turned (below A x)) (1 ∷ 0 ∷ 2 ∷ 4 ∷ 5 ∷ []) tt tt

-- 12 after 11: an unknown step is refused where it stands before the first line of another form

abbrev on_line : Line → List ℕ → List ℕ
on_line comment p = p
on_line (step n) p = n ∷ p
on_line other p = []

abbrev steps_before : Lines → List ℕ
steps_before (rest l) = []
steps_before (ended l ls) = on_line (line_of l) (steps_before ls)

abbrev twelve_last_by : List ℕ → List ℕ → ℕ → Measured → Outcome
twelve_last_by b t room (within z) =
    cond (all (λ (k : ℕ). ltb k (translated_actions z)) (steps_before (lines_of t)))
    (outcome b t room)
    (refused STEP (steps_known (translated_actions z) (steps_before (lines_of t))))
twelve_last_by b t room (Measured.refused n i) = outcome b t room

abbrev pub twelve_last : List ℕ → List ℕ → ℕ → Outcome
twelve_last b t room = twelve_last_by b t room (measured b)

-- where reading the text alone is refused by 12, so is its source part, and not by 11
pub twelve_last_lem : (b t : List ℕ) (z : Sizes) (i : ℕ) → measured b ≡ within z → read_plan t ≡ faulty i
    → steps_known (translated_actions z) (steps_before (lines_of t)) < length (steps_before (lines_of t)) → (room : ℕ)
    → (read_outcome t room ≡ refused 12 i) × (outcome b t room ≡ refused 12 i)
    × (twelve_last b t room ≡ refused 11 (steps_known (translated_actions z) (steps_before (lines_of t))))
unfolding read_outcome outcome
twelve_last_lem b t z i can e h room = (rw e, rw (can, e), rw (can, not-all_known (translated_actions z) (steps_before (lines_of t)) h))

-- 7 is no action of the belt's translation, and the second line is cut
abbrev cut : List ℕ
cut = ascii "(a7)" ++ (NEWLINE ∷ ascii "(a")

pub on_the_belt : (outcome belt cut 0 ≡ refused 12 1) × (twelve_last belt cut 0 ≡ refused 11 0)
unfolding check check_rows translated Translated.outcome measured decimal step_line read_plan outcome
on_the_belt = (refl, refl)
