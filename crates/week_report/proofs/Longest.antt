-- No text is longer than 2,048 bytes: a number in it has at most 20 digits, and there are at most 16 preferences.
use mathlib.Core.Path.{◌≡◌}
use mathlib.Core.List.{List, [], ◌∷◌, ◌++◌}
use Prim.Native.Nat.{ℕ, ◌+◌, ◌*◌, ◌^◌, ◌≤◌, ◌<◌}
use native.Mathlib.Nat.{mul-le-mul_left, mul-one}
use native.Mathlib.Omega.{arith}
use lib.Dec.{T, leb, leb→le}
use lib.ListN.{length, length-append}
use Rattle.lists.specs.Lists.{all, concat_from}
use Rattle.lists.proofs.Tests.{tests}
use Rattle.task.specs.File.{sizes}
use Rattle.text.specs.Ascii.{ascii}
use Rattle.text.specs.Text.{decimal}
use Rattle.text.proofs.Decimal.{few_digits}
use Rattle.figures.specs.Plans.{count}
use Rattle.figures.specs.Figures.{Amounts, Figures, none_solves, solve}
use Rattle.figures.specs.Week.{Answer, given, refused, week_of}
use Rattle.figures.specs.Pass.{MOST}
use Rattle.figures.specs.Sound.{SoundIn, SumsWithin, IfGiven}
use Rattle.figures.proofs.Weeks.{week_sound, week_fits, week_few}
use Rattle.week_report.specs.Lines.{labelled, plans_line, solving_line, metric_line, meeting_line}
use Rattle.week_report.specs.Report.{figures_text, answer_text, week_text}

-- beyond every number of a text
abbrev BEYOND : ℕ
BEYOND = 10 ^ 20

short_number : (n : ℕ) → n < BEYOND → length (decimal n) ≤ 20
short_number n h = few_digits 19 n h

-- Lines

short_plans : (n : ℕ) → n < BEYOND → length (plans_line n) ≤ 27
unfolding plans_line
short_plans n h = omega (arith, length-append (labelled "plans " n) (ascii "\n"), length-append (ascii "plans ") (decimal n), short_number n h)

short_solving : (n : ℕ) → n < BEYOND → length (solving_line n) ≤ 29
unfolding solving_line
short_solving n h = omega (arith, length-append (labelled "solving " n) (ascii "\n"), length-append (ascii "solving ") (decimal n), short_number n h)

short_meeting : (k n : ℕ) → k < BEYOND → n < BEYOND → length (meeting_line k n) ≤ 57
unfolding meeting_line
short_meeting k n h l =
    omega (
      arith,
      length-append (labelled "preference " k ++ labelled " met " n) (ascii "\n"),
      length-append (labelled "preference " k) (labelled " met " n),
      length-append (ascii "preference ") (decimal k),
      length-append (ascii " met ") (decimal n),
      short_number k h,
      short_number n l,
    )

short_metric : (a : Amounts) → a.lowest < BEYOND → a.highest < BEYOND → a.total < BEYOND → a.quotient < BEYOND → a.remainder < BEYOND
    → length (metric_line a) ≤ 146
unfolding metric_line
short_metric a h₁ h₂ h₃ h₄ h₅ =
    let two : List ℕ = labelled "metric least " a.lowest ++ labelled " greatest " a.highest in
    let three : List ℕ = two ++ labelled " sum " a.total in
    let four : List ℕ = three ++ labelled " mean " a.quotient in
    omega (
      arith,
      length-append (four ++ labelled " remainder " a.remainder) (ascii "\n"),
      length-append four (labelled " remainder " a.remainder),
      length-append three (labelled " mean " a.quotient),
      length-append two (labelled " sum " a.total),
      length-append (labelled "metric least " a.lowest) (labelled " greatest " a.highest),
      length-append (ascii "metric least ") (decimal a.lowest),
      length-append (ascii " greatest ") (decimal a.highest),
      length-append (ascii " sum ") (decimal a.total),
      length-append (ascii " mean ") (decimal a.quotient),
      length-append (ascii " remainder ") (decimal a.remainder),
      short_number a.lowest h₁,
      short_number a.highest h₂,
      short_number a.total h₃,
      short_number a.quotient h₄,
      short_number a.remainder h₅,
    )

short_lines : (n k : ℕ) (cs : List ℕ) → n ≤ 64 → k + length cs ≤ 16 → T (all (λ (c : ℕ). leb c n) cs) → length (concat_from meeting_line k cs) ≤ 57 * length cs
short_lines n k [] h l t = omega arith
short_lines n k (c ∷ cs) h l t =
    let few : c ≤ n = leb→le c n (search tests) in
    omega (
      arith,
      length-append (meeting_line k c) (concat_from meeting_line (k + 1) cs),
      short_meeting k c (omega arith) (omega (arith, few)),
      short_lines n (k + 1) cs h (omega arith) (search tests),
    )

-- The text

-- a mean times one or more is at least the mean
mean_small : (q n r t : ℕ) → q * n + r ≡ t → 1 ≤ n → q ≤ t
mean_small q n r t e h = let m : q * 1 ≤ q * n = mul-le-mul_left q h in omega (arith, mul-one q)

short_figures : (n P : ℕ) (x : Figures) → n ≤ 64 → P ≤ 16 → SoundIn P x → SumsWithin (64 * MOST) x → length (figures_text n x) ≤ 2048
short_figures n P none_solves h l s f = omega (arith, length-append (plans_line n) (solving_line 0), short_plans n (omega arith), short_solving 0 (omega arith))
short_figures n P (solve m a) h l s f =
    let first : List ℕ = plans_line n ++ solving_line m in
    let mean : a.quotient ≤ a.total = mean_small a.quotient m a.remainder a.total s.mean s.one_solves in
    omega (
      arith,
      length-append (first ++ metric_line a) (concat_from meeting_line 0 a.meetings),
      length-append first (metric_line a),
      length-append (plans_line n) (solving_line m),
      short_plans n (omega arith),
      short_solving m (omega (arith, f.few)),
      short_metric a (omega (arith, s.not_below, mean, f.small)) (omega (arith, f.within, f.small)) (omega (arith, f.small))
          (omega (arith, mean, f.small)) (omega (arith, s.rest, f.few)),
      short_lines m 0 a.meetings f.few (omega (arith, s.each_preference)) s.meeting_solve,
      s.each_preference,
    )

pub longest : (b f : List ℕ) → length (week_text b f) ≤ 2048
unfolding week_text
longest b f = go (week_of b f) (week_few b f) (week_sound b f) (week_fits b f)
  where
    go : (x : Answer) → IfGiven (λ (x : Figures). (count f ≤ 64) × ((sizes b).preferences ≤ 16)) x → IfGiven (SoundIn (sizes b).preferences) x
        → IfGiven (SumsWithin (64 * MOST)) x → length (answer_text (count f) x) ≤ 2048
    go (refused n i) k s t = omega arith
    go (given x) k s t = short_figures (count f) (sizes b).preferences x k.0 k.1 s t
