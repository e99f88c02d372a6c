-- What a task and a plan mean: document 01, 'What it means', and requests 6 and 8. Steps are counted from 0; a plan of n steps visits states 0 to n.
use Rattle.std.specs.Prelude.{Bool, true, false, not, cond, ◌&&◌, ◌||◌, List, [], ◌∷◌, map, ℕ, suc, ◌+◌, ◌-◌, ◌≤◌, ◌<◌, ltb, T, ℤ, pos, ◌-ℤ◌, length, take, get_or}
use Rattle.std.specs.Bool.{beq}
use Rattle.lists.specs.Lists.{all, any, filter, drop_until, concat_map, elem, sum, last_or}
use Rattle.meaning.specs.Task.{Kind, always, sometime, at_end, at_most_once, sometime_before, sometime_after, within, always_within, Literal}
use Rattle.meaning.specs.Task.{Condition, Effect, Action, Preference, Task}

-- a state is the set of the facts that hold
abbrev pub State : Type 0
State = ℕ → Bool

abbrev pub literal_true : State → Literal → Bool
literal_true s l = beq (s l.fact) l.holds

abbrev pub is_true : State → Condition → Bool
is_true s = all (any (literal_true s))

-- document 01's opening state, which is state 0
abbrev pub opening : Task → State
opening t n = elem n t.start

abbrev pub fired : State → Action → List Effect
fired s a = filter (λ (e : Effect). is_true s e.condition) a.effects

-- what is deleted goes out, then what is added comes in
abbrev pub after : State → Action → State
after s a n =
    elem n (concat_map (λ (e : Effect). e.adds) (fired s a))
    || s n && not (elem n (concat_map (λ (e : Effect). e.deletes) (fired s a)))

abbrev pub no_action : Action
no_action = record { cost = 0; precondition = []; effects = [] }

abbrev pub action_at : Task → ℕ → Action
action_at t k = get_or t.actions k no_action

abbrev pub no_preference : Preference
no_preference = record { kind = always; hard = false; weight = 0; first = []; second = [] }

abbrev pub preference_at : Task → ℕ → Preference
preference_at t k = get_or t.preferences k no_preference

abbrev pub applies : Task → State → ℕ → Bool
applies t s k = ltb k (length t.actions) && is_true s (action_at t k).precondition

-- each step applies in turn, from s on
abbrev pub runs : Task → State → List ℕ → Bool
runs t s [] = true
runs t s (k ∷ ks) = applies t s k && runs t (after s (action_at t k)) ks

-- the states after s, one for each step
abbrev pub reached : Task → State → List ℕ → List State
reached t s [] = []
reached t s (k ∷ ks) = after s (action_at t k) ∷ reached t (after s (action_at t k)) ks

-- the states 0 to n
abbrev pub visited : Task → List ℕ → List State
visited t p = opening t ∷ reached t (opening t) p

abbrev pub final : Task → List ℕ → State
final t p = last_or (opening t) (reached t (opening t) p)

abbrev pub cost : Task → List ℕ → ℕ
cost t p = sum (map (λ (k : ℕ). (action_at t k).cost) p)

-- A preference over φ and ψ by state

abbrev pub Observation : Type 0
Observation = record { φ : Bool; ψ : Bool }

abbrev pub is_φ : Observation → Bool
is_φ x = x.φ

abbrev pub is_ψ : Observation → Bool
is_ψ x = x.ψ

abbrev pub not_φ : Observation → Bool
not_φ x = not x.φ

-- the states with φ are the first ones
abbrev pub first_run : List Observation → Bool
first_run xs = all not_φ (drop_until not_φ xs)

-- at most one unbroken run of states with φ
abbrev pub one_run : List Observation → Bool
one_run xs = first_run (drop_until is_φ xs)

-- ψ comes before each φ, or has come already
abbrev pub precedes : Bool → List Observation → Bool
precedes b [] = true
precedes b (x ∷ xs) = (not x.φ || b) && precedes (b || x.ψ) xs

-- ψ comes with each φ, or after it
abbrev pub follows : List Observation → Bool
follows [] = true
follows (x ∷ xs) = (not x.φ || any is_ψ (x ∷ xs)) && follows xs

-- φ in one of the states 0 to t
abbrev pub in_time : ℕ → List Observation → Bool
in_time t xs = any is_φ (take (suc t) xs)

-- ψ comes with each φ, or at most t states after it
abbrev pub follows_in : ℕ → List Observation → Bool
follows_in t [] = true
follows_in t (x ∷ xs) = (not x.φ || any is_ψ (take (suc t) (x ∷ xs))) && follows_in t xs

-- φ in the last state
abbrev pub last_φ : Bool → List Observation → Bool
last_φ b [] = b
last_φ b (x ∷ xs) = last_φ x.φ xs

abbrev pub met : Kind → List Observation → Bool
met always = all is_φ
met sometime = any is_φ
met at_end = last_φ false
met at_most_once = one_run
met sometime_before = precedes false
met sometime_after = follows
met (within t) = in_time t
met (always_within t) = follows_in t

abbrev pub seen : Preference → State → Observation
seen q s = record { φ = is_true s q.first; ψ = is_true s q.second }

abbrev pub is_met : Task → List ℕ → Preference → Bool
is_met t p q = met q.kind (map (seen q) (visited t p))

-- a preference that is soft or met
abbrev pub is_kept : Task → List ℕ → Preference → Bool
is_kept t p q = not q.hard || is_met t p q

-- every hard preference is met
abbrev pub keeps_rules : Task → List ℕ → Bool
keeps_rules t p = all (is_kept t p) t.preferences

abbrev pub solves : Task → List ℕ → Bool
solves t p = runs t (opening t) p && is_true (final t p) t.goal && keeps_rules t p

-- Amounts, as whole numbers without a limit

-- the weights of the missed preferences
abbrev pub missed_weight : Task → List ℕ → ℕ
missed_weight t p = sum (map (λ (q : Preference). cond (is_met t p q) 0 q.weight) t.preferences)

-- the weights of the met ones
abbrev pub met_weight : Task → List ℕ → ℕ
met_weight t p = sum (map (λ (q : Preference). cond (is_met t p q) q.weight 0) t.preferences)

-- PDDL3's
abbrev pub metric : Task → List ℕ → ℕ
metric t p = cost t p + missed_weight t p

-- document 000's
abbrev pub utility : Task → List ℕ → ℤ
utility t p = pos (met_weight t p) -ℤ pos (cost t p)

-- The same meanings as document 01 words them, over the states 0 to n by number

-- a state of neither, which stands after the last
abbrev pub neither : Observation
neither = record { φ = false; ψ = false }

abbrev pub φ-at : List Observation → ℕ → Type 0
φ-at xs i = T (get_or xs i neither).φ

abbrev pub ψ-at : List Observation → ℕ → Type 0
ψ-at xs i = T (get_or xs i neither).ψ

abbrev pub Stated : Kind → List Observation → Type 0
Stated always xs = (i : ℕ) → i < length xs → φ-at xs i
Stated sometime xs = (i : ℕ) × (i < length xs) × φ-at xs i
Stated at_end xs = φ-at xs (length xs - 1)
Stated at_most_once xs = (i j k : ℕ) → i < j → j < k → k < length xs → φ-at xs i → φ-at xs k → φ-at xs j
Stated sometime_before xs = (i : ℕ) → i < length xs → φ-at xs i → (j : ℕ) × (j < i) × ψ-at xs j
Stated sometime_after xs = (i : ℕ) → i < length xs → φ-at xs i → (j : ℕ) × (i ≤ j) × (j < length xs) × ψ-at xs j
Stated (within t) xs = (i : ℕ) × (i ≤ t) × (i < length xs) × φ-at xs i
Stated (always_within t) xs = (i : ℕ) → i < length xs → φ-at xs i → (j : ℕ) × (i ≤ j) × (j ≤ i + t) × (j < length xs) × ψ-at xs j
