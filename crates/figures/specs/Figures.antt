-- The figures of a week, over the verdicts on its plans.
use Rattle.std.specs.Prelude.{Bool, List, [], ◌∷◌, map, ℕ, suc, ◌/◌, ◌%◌, min, max, length}
use Rattle.lists.specs.Lists.{singleton, filter, concat_map, range, sum}
use Rattle.meaning.specs.Verdict.{Verdict, solved, stopped, goal_missed, rule_missed}

-- what the figures read of a plan that solves: its metric and the set of the preferences it meets
pub record Solution : Type 0 where
  pub metric : ℕ
  pub met : ℕ → Bool

abbrev pub solution : Verdict → List Solution
solution (solved cost metric utility met) = singleton (record { metric = metric; met = met })
solution (stopped i) = []
solution goal_missed = []
solution (rule_missed k) = []

abbrev pub solutions : List Verdict → List Solution
solutions = concat_map solution

-- how many meet preference k
abbrev pub meeting : List Solution → ℕ → ℕ
meeting xs k = length (filter (λ (x : Solution). x.met k) xs)

abbrev pub metrics : List Solution → List ℕ
metrics = map (λ (x : Solution). x.metric)

-- one of two numbers, chosen all along x and xs
abbrev pub overall : (ℕ → ℕ → ℕ) → ℕ → List ℕ → ℕ
overall choose x [] = x
overall choose x (y ∷ ys) = choose x (overall choose y ys)

-- the least and the greatest of x and xs
abbrev pub least : ℕ → List ℕ → ℕ
least = overall min

abbrev pub greatest : ℕ → List ℕ → ℕ
greatest = overall max

-- over the plans that solve, at least one: for each preference how many meet it; of the metrics the least, the greatest, the sum and the mean
pub record Amounts : Type 0 where
  pub meetings : List ℕ
  pub lowest : ℕ
  pub highest : ℕ
  pub total : ℕ
  pub quotient : ℕ
  pub remainder : ℕ

-- how many solve, with amounts only where one does
pub data Figures : Type 0 where
  none_solves : Figures
  solve : ℕ → Amounts → Figures

-- over P preferences
abbrev pub amounts_of : ℕ → Solution → List Solution → Amounts
amounts_of P x xs =
    let n : ℕ = suc (length xs) in
    let s : ℕ = sum (metrics (x ∷ xs)) in
    record {
      meetings = map (meeting (x ∷ xs)) (range 0 P);
      lowest = least x.metric (metrics xs);
      highest = greatest x.metric (metrics xs);
      total = s;
      quotient = s / n;
      remainder = s % n;
    }

abbrev pub figures_over : ℕ → List Solution → Figures
figures_over P [] = none_solves
figures_over P (x ∷ xs) = solve (suc (length xs)) (amounts_of P x xs)

abbrev pub figures : ℕ → List Verdict → Figures
figures P vs = figures_over P (solutions vs)
