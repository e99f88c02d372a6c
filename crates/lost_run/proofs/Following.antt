-- A list followed action by action.
use mathlib.Core.Path.{◌≡◌, refl, sym, ap, ◌∙◌}
use mathlib.Core.Bool.{Bool, true, cond}
use mathlib.Core.List.{List}
use Prim.Native.Nat.{ℕ, suc, ◌+◌, ◌*◌, ◌≤◌, ◌<◌}
use native.Mathlib.Numerals.{add-one}
use lib.ListN.{length, drop, get_or, drop_of_length-le}
use lib.Seq.{drop-cons}
use Rattle.meaning.specs.Task.{Task}
use Rattle.meaning.specs.Meaning.{opening}
use Rattle.meaning.specs.Monitor.{fresh}
use Rattle.state.specs.Member.{member}
use Rattle.state.specs.declared.State.{State}
use Rattle.monitor.specs.Packed.{monitor_at}
use Rattle.losses.specs.Losses.{lost, stopped}
use Rattle.losses.specs.Following.{Position, first, goes, led, lost_here, followed}
use Rattle.std.specs.Prelude.{Some, None}
use Rattle.lost_run.specs.Run.{Stands, TakenAs}
use Rattle.lost_run.specs.declared.taking.Place.{Place}

-- place p with monitors l stands before action i of the list
pub record On (t : Task) (list : List ℕ) (p : Place) (l : List ℕ) (i : ℕ) : Type 0 where
  pub position : Position
  pub stands : Stands t l p position
  pub same : followed t position i (drop i list) ≡ followed t (first t) 0 list

-- what holds there, whichever task Begun says
pub record Running (Begun : Task → Type 0) (list : List ℕ) (p : Place) (l : List ℕ) (i : ℕ) : Type 0 where
  pub actions_left : i ≤ length list
  pub little : p.cost ≤ i * 4294967296
  pub all_there : length l ≡ 16
  pub on : (t : Task) → Begun t → On t list p l i

module _ (t : Task) (list : List ℕ) where
  pub begins : (s : State) (l : List ℕ) → member s ≡ opening t → ((k : ℕ) → monitor_at l k ≡ fresh)
      → On t list (record { state = s; cost = 0; running = true; closed = 0 }) l 0
  begins s l o m =
      record {
        position = first t;
        stands = record { facts = o; kept = record { monitors = λ j h. m j; same = refl }; running = refl; cost = refl };
        same = refl;
      }

  module _ (p : Place) (l : List ℕ) (i : ℕ) (o : On t list p l i) where
    abbrev q : Position
    q = o.position

    pub ends : length list ≤ i → (n : ℕ) → n ≡ lost_here t q → lost p.cost n ≡ followed t (first t) 0 list
    ends h n e =
        (λ z. lost (o.stands.cost z) (e z)) ∙ ap (followed t q i) (sym (drop_of_length-le list {i = i} h)) ∙ o.same

    module _ (h : i < length list) (j : ℕ) (e : j ≡ get_or list i 0) where
      here : cond (goes t q j) (followed t (led t q j) (suc i) (drop (suc i) list)) (stopped i) ≡ followed t (first t) 0 list
      here =
          ap (λ (k : ℕ). cond (goes t q k) (followed t (led t q k) (suc i) (drop (suc i) list)) (stopped i)) e
          ∙ ap (followed t q i) (sym (drop-cons list i 0 h))
          ∙ o.same

      pub stops : (l' : List ℕ) → TakenAs t l' q j None → stopped i ≡ followed t (first t) 0 list
      stops l' g = ap (λ (b : Bool). cond b (followed t (led t q j) (suc i) (drop (suc i) list)) (stopped i)) (sym g) ∙ here

      pub goes_on : (l' : List ℕ) (p' : Place) → TakenAs t l' q j (Some p') → On t list p' l' (i + 1)
      goes_on l' p' g =
          record {
            position = led t q j;
            stands = g.1;
            same =
                (λ z. followed t (led t q j) (add-one i z) (drop (add-one i z) list))
                ∙ ap (λ (b : Bool). cond b (followed t (led t q j) (suc i) (drop (suc i) list)) (stopped i)) (sym g.0)
                ∙ here;
          }
