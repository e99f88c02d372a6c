-- Answers as numbers, for callers in C and Rust: the number that a function returns, and the words that it leaves in the
-- answer area.
use Rattle.std.specs.Prelude.{Bool, cond, List, [], ◌∷◌, map, ℕ, zero, suc, ◌+◌, ◌*◌, ◌-◌, ◌^◌, length, ℤ, pos, negsuc, get_or, replicate, Result, Ok, Err}
use Rattle.lists.specs.Lists.{range}
use Rattle.task.specs.Check
use Rattle.task.specs.Check.{Answer}
use Rattle.task.specs.Answers.{number_of}
use Rattle.task.specs.declared.Refusal.{Refusal}
use Rattle.task.specs.Limits.{MAX_PREFERENCES}
use Rattle.plan.specs.Walked.{Walk, solved, stopped, goal_missed, rule_missed, Walked, given}
use Rattle.settling.specs.Settled.{Settled, worth}
use Rattle.figures.specs.Figures.{Figures, none_solves, solve}
use Rattle.figures.specs.Week
use Rattle.pddl_text.specs.Outcomes
use Rattle.losses.specs.Losses
use Rattle.losses.specs.Losses.{Lost}
use Rattle.lost.specs.Answered.{Answered}
use Rattle.searched.specs.Searched
use Rattle.searched.specs.Searched.{found, no_plan, full}
use Rattle.finding.specs.declared.Sought.{Sought}
use Rattle.finding.specs.declared.Sought.TheVariants.{Found, NoPlan, Full}
use Rattle.outcome.specs.Outcome.{Outcome, written}

pub data Call : Type 0 where
  call : ℕ → List ℕ → Call

-- an answer that is no refusal: 0 is returned, and word 0 is 0
abbrev pub answered : ℕ → ℕ → ℕ → ℕ → ℕ → ℕ → ℕ → Call
answered a b c d e f g = call 0 (0 ∷ a ∷ b ∷ c ∷ d ∷ e ∷ f ∷ g ∷ [])

-- a refusal: its number is returned, word 0 is its place, and the other words are 0
abbrev pub refusal : ℕ → ℕ → Call
refusal n i = call n (i ∷ 0 ∷ 0 ∷ 0 ∷ 0 ∷ 0 ∷ 0 ∷ 0 ∷ [])

-- the same in an answer of N words
abbrev pub refusal_in : ℕ → ℕ → ℕ → Call
refusal_in N n i = call n (i ∷ replicate (N - 1) 0)

-- words 1 to 4 are the sizes
abbrev pub of_check : Answer → Call
of_check (Check.accepted z) = answered z.facts z.actions z.preferences z.rows 0 0 0
of_check (Check.refused n i) = refusal n i

-- word 1 is the length written
abbrev pub of_outcome : Outcome → Call
of_outcome (written n) = answered n 0 0 0 0 0 0
of_outcome (Outcome.refused n i) = refusal n i

-- words 1 and 2 are the lengths of the domain and of the problem
abbrev pub of_texts : Outcomes.Outcome → Call
of_texts (Outcomes.written d p) = answered d p 0 0 0 0 0
of_texts (Outcomes.refused n i) = refusal n i

-- a signed number in 64 bits, by two's complement
abbrev pub signed : ℤ → ℕ
signed (pos n) = n
signed (negsuc n) = 2 ^ 64 - 1 - n

-- the numbers below n of a set, as bits
unfoldable pub bits : ℕ → (ℕ → Bool) → ℕ
bits zero f = 0
bits (suc n) f = cond (f 0) 1 0 + 2 * bits n (λ (k : ℕ). f (suc k))

-- word 1 is the verdict: 1 solved, 2 stopped, 3 goal missed, 4 rule missed. Word 2 is the step at which a plan stopped, or the
-- rule that it missed, words 3 and 4 are cost and the met preferences of a plan that solves; word 5 is how many literals were
-- looked at, with every verdict
abbrev pub of_verdict : Walk → ℕ → Call
of_verdict (solved cost met) looked = answered 1 0 cost (bits 64 met) looked 0 0
of_verdict (stopped step) looked = answered 2 step 0 0 looked 0 0
of_verdict goal_missed looked = answered 3 0 0 0 looked 0 0
of_verdict (rule_missed rule) looked = answered 4 rule 0 0 looked 0 0

abbrev pub of_walk : Walked → Call
of_walk (given v looked) = of_verdict v looked
of_walk (Walked.refused n i) = refusal n i

-- words 1 and 2 are metric and utility
abbrev pub of_settle : Settled → Call
of_settle (worth metric utility) = answered metric (signed utility) 0 0 0 0 0
of_settle (Settled.refused n i) = refusal n i

-- A week has 24 words. Words 1 to 6 are how many plans solve, of their metrics the least, the greatest, the sum and the mean as
-- quotient and remainder; word 8 + k is how many of them meet preference k, 0 where there is none. Where no plan solves all are 0
abbrev pub of_figures : Figures → Call
of_figures none_solves = call 0 (replicate 24 0)
of_figures (solve n a) =
    call 0 (0 ∷ n ∷ a.lowest ∷ a.highest ∷ a.total ∷ a.quotient ∷ a.remainder ∷ 0 ∷ map (λ (k : ℕ). get_or a.meetings k 0) (range 0 MAX_PREFERENCES))

abbrev pub of_week : Week.Answer → Call
of_week (Week.given x) = of_figures x
of_week (Week.refused n i) = call n (i ∷ replicate 23 0)

-- word 1 says what a list of translated actions comes to: 1 every step applies, 2 stopped. Word 2 is the step at which it stopped, words
-- 3 and 4 are the cost so far and the lost weights
abbrev pub of_lost : Lost → Call
of_lost (Losses.lost cost weights) = answered 1 0 cost weights 0 0 0
of_lost (Losses.stopped step) = answered 2 step 0 0 0 0 0

abbrev pub of_losses : Answered → Call
of_losses (Answered.given v) = of_lost v
of_losses (Answered.refused n i) = refusal n i

-- word 1 is what a search came to: 1 found, 2 none, 3 full. Words 2 and 3 are cost and length of a plan found, word 4 is how many nodes
-- were kept
abbrev pub of_found : Searched.Answer → ℕ → Call
of_found (found p cost) nodes = answered 1 cost (length p) nodes 0 0 0
of_found no_plan nodes = answered 2 0 0 nodes 0 0 0
of_found full nodes = answered 3 0 0 nodes 0 0 0
of_found (Searched.refused n i) nodes = refusal n i

abbrev pub of_search : Searched.Searched → Call
of_search x = of_found x.answer (length x.kept)

-- the same of what `find` answers
abbrev pub of_sought : Result Sought Refusal → Call
of_sought (Ok (Found r nodes)) = answered 1 r.cost r.steps nodes 0 0 0
of_sought (Ok (NoPlan nodes)) = answered 2 0 0 nodes 0 0 0
of_sought (Ok (Full nodes)) = answered 3 0 0 nodes 0 0 0
of_sought (Err r) = refusal (number_of r.cause) r.place
