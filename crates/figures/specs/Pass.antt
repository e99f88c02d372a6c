-- The same by one pass over the plans, as code goes.
use Rattle.std.specs.Prelude.{◌≡◌, Bool, cond, ◌||◌, List, [], ◌∷◌, ℕ, ◌+◌, ◌*◌, ◌-◌, ◌/◌, ◌%◌, ◌≤◌, T, eqb, ltb, leb, length, take, drop, replicate}
use Rattle.lists.specs.Lists.{all}
use Rattle.task.specs.Limits.{MAX_AMOUNT, MAX_PREFERENCES}
use Rattle.meaning.specs.Verdict.{Verdict, solved, stopped, goal_missed, rule_missed}
use Rattle.plan.specs.Judged
use Rattle.plan.specs.Judged.{Judged, judged}
use Rattle.figures.specs.Plans.{plans}
use Rattle.figures.specs.Figures.{Figures, none_solves, solve}
use Rattle.figures.specs.Week.{Answer, given, refused}

-- of the plans so far: how many solve, their metrics' least, greatest and sum, and 16 counts of those that meet a preference
pub record Tally : Type 0 where
  pub solving : ℕ
  pub lowest : ℕ
  pub highest : ℕ
  pub total : ℕ
  pub meetings : List ℕ

abbrev pub no_plans : Tally
no_plans = record { solving = 0; lowest = 0; highest = 0; total = 0; meetings = replicate MAX_PREFERENCES 0 }

-- one more at each number in a set, the first of the list being number k
abbrev pub raised : (ℕ → Bool) → ℕ → List ℕ → List ℕ
raised met k [] = []
raised met k (c ∷ cs) = cond (met k) (c + 1) c ∷ raised met (k + 1) cs

-- one more plan that solves
abbrev pub counted : Tally → ℕ → (ℕ → Bool) → Tally
counted a metric met =
    record {
      solving = a.solving + 1;
      lowest = cond (eqb a.solving 0 || ltb metric a.lowest) metric a.lowest;
      highest = cond (ltb a.highest metric) metric a.highest;
      total = a.total + metric;
      meetings = raised met 0 a.meetings;
    }

abbrev pub taken : Tally → Verdict → Tally
taken a (solved cost metric utility met) = counted a metric met
taken a (stopped i) = a
taken a goal_missed = a
taken a (rule_missed k) = a

abbrev pub closed : ℕ → Tally → Figures
closed P a =
    cond (eqb a.solving 0) none_solves
    (solve a.solving (record {
      meetings = take P a.meetings;
      lowest = a.lowest;
      highest = a.highest;
      total = a.total;
      quotient = a.total / a.solving;
      remainder = a.total % a.solving;
    }))

-- what a judged plan makes of a tally: one to go on with, or a refusal, with its number and place, that ends the pass
pub data Turn : Type 0 where
  on : Tally → Turn
  ends : ℕ → ℕ → Turn

-- plan k is judged: its refusal has k as the place
abbrev pub turned : ℕ → Tally → Judged → Turn
turned k a (Judged.given v) = on (taken a v)
turned k a (Judged.refused n i) = ends n k

abbrev pub pass_on : (Tally → Answer) → Turn → Answer
pass_on go (on a) = go a
pass_on go (ends n k) = refused n k

-- what the last turn comes to, of P preferences
abbrev pub closing : ℕ → Turn → Answer
closing P = pass_on (λ (a : Tally). given (closed P a))

-- the plans of the task in b, of P preferences, the first being plan k
unfoldable pub pass : List ℕ → ℕ → Tally → ℕ → List (List ℕ) → Answer
pass b P a k [] = given (closed P a)
pass b P a k (p ∷ ps) = pass_on (λ (a' : Tally). pass b P a' (k + 1) ps) (turned k a (judged b p))

-- from plan i of the file f on
abbrev pub pass_at : List ℕ → List ℕ → ℕ → Tally → ℕ → Answer
pass_at b f P a i = pass b P a i (drop i (plans f))

-- How large a tally gets

-- of counts, none is over n
abbrev pub AtMost : ℕ → List ℕ → Type 0
AtMost n cs = T (all (λ (c : ℕ). leb c n) cs)

-- the greatest metric: 2,048 steps and 16 preferences at the limit of costs and weights
abbrev pub MOST : ℕ
MOST = 2064 * MAX_AMOUNT

-- after i plans, of metrics that are at most this
pub record Small (most i : ℕ) (a : Tally) : Type 0 where
  pub few : a.solving ≤ i
  pub sum : a.total ≤ i * most
  pub counts : AtMost i a.meetings
  pub sixteen : length a.meetings ≡ MAX_PREFERENCES

-- What is counted, of P preferences: no preference from P on, and none where no plan solves
pub record Counting (P : ℕ) (a : Tally) : Type 0 where
  pub sixteen : length a.meetings ≡ MAX_PREFERENCES
  pub beyond : drop P a.meetings ≡ replicate (MAX_PREFERENCES - P) 0
  pub unsolved : a.solving ≡ 0 → a.meetings ≡ replicate MAX_PREFERENCES 0

abbrev pub CountingIn : ℕ → Turn → Type 0
CountingIn P (on a) = Counting P a
CountingIn P (ends n k) = Unit {0}
