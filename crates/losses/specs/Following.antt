-- A list of translated actions followed on the source task alone, without the translated one.
use Rattle.std.specs.Prelude.{Bool, true, false, not, cond, ◌&&◌, ◌||◌, List, [], ◌∷◌, map, ℕ, suc, ◌+◌, ◌*◌, eqb, ltb, leb, length}
use Rattle.lists.specs.Lists.{range, sum}
use Rattle.meaning.specs.Task.{Preference, Task}
use Rattle.meaning.specs.Meaning.{State, opening, after, action_at, applies, preference_at, seen}
use Rattle.meaning.specs.Monitor.{Monitor, fresh, step, accepting}
use Rattle.losses.specs.Losses.{Lost, lost, stopped, shows}

-- where the list has come to: the source's state, a monitor for each rule, whether end is still to come, how many rules are closed, and
-- the cost so far
pub record Position : Type 0 where
  pub facts : State
  pub monitors : Preference → Monitor
  pub running : Bool
  pub closed : ℕ
  pub cost : ℕ

abbrev pub first : Task → Position
first t = record { facts = opening t; monitors = λ (q : Preference). fresh; running = true; closed = 0; cost = 0 }

module _ (t : Task) (p : Position) where
  -- the monitors once they have seen the state
  abbrev pub watched : Bool → Preference → Monitor
  watched last q = step q.kind last (p.monitors q) (seen q p.facts)

  abbrev pub is_met : ℕ → Bool
  is_met k = accepting (preference_at t k).kind (p.monitors (preference_at t k))

  -- the action that closes rule k: collect where it is met, forgo where it is missed
  abbrev pub closing : ℕ → ℕ
  closing k = length t.actions + cond (is_met k) 1 2 + 2 * k

  -- Where action j leads

  -- a source action that applies, or end; afterwards only the one that closes the next rule, which is met or soft
  abbrev pub goes : ℕ → Bool
  goes j =
      cond p.running
      (applies t p.facts j || eqb j (length t.actions))
      (ltb p.closed (length t.preferences) && eqb j (closing p.closed) && (not (preference_at t p.closed).hard || is_met p.closed))

  abbrev pub led_by_source : ℕ → Position
  led_by_source j =
      record {
        facts = after p.facts (action_at t j);
        monitors = watched false;
        running = p.running;
        closed = p.closed;
        cost = p.cost + (action_at t j).cost;
      }

  abbrev pub led_by_end : Position
  led_by_end = record { facts = p.facts; monitors = watched true; running = false; closed = p.closed; cost = p.cost }

  abbrev pub led_by_closing : Position
  led_by_closing =
      record {
        facts = p.facts;
        monitors = p.monitors;
        running = p.running;
        closed = suc p.closed;
        cost = p.cost + cond (is_met p.closed) 0 (preference_at t p.closed).weight;
      }

  abbrev pub led : ℕ → Position
  led j = cond p.running (cond (ltb j (length t.actions)) (led_by_source j) led_by_end) led_by_closing

  -- What is lost there

  -- a soft rule that is shown broken and isn't closed
  abbrev pub is_lost : ℕ → Bool
  is_lost k =
      not (preference_at t k).hard
      && shows (preference_at t k).kind (p.monitors (preference_at t k)).S (p.monitors (preference_at t k)).B
      && leb p.closed k

  abbrev pub lost_here : ℕ
  lost_here = sum (map (λ (k : ℕ). cond (is_lost k) (preference_at t k).weight 0) (range 0 (length t.preferences)))

-- from p on, where i steps are made
abbrev pub followed : Task → Position → ℕ → List ℕ → Lost
followed t p i [] = lost p.cost (lost_here t p)
followed t p i (j ∷ js) = cond (goes t p j) (followed t (led t p j) (suc i) js) (stopped i)
