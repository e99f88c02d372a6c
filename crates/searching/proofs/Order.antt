-- The list keeps its states in the order in which they were found: it grows at its end only.
use mathlib.Core.Path.{◌≡◌, refl, sym, ◌∙◌, ap}
use mathlib.Core.Logic.{◌⊎◌, inl, inr}
use mathlib.Core.Bool.{Bool, true, false, not, cond, ◌&&◌}
use mathlib.Core.List.{List, [], ◌∷◌, ◌++◌, map, append-nil, append_assoc}
use mathlib.Core.Option.{Option, none, some}
use Prim.Native.Nat.{ℕ, zero, suc}
use lib.Dec.{leb, ltb}
use lib.ListN.{length}
use Rattle.lists.specs.Lists.{singleton}
use Rattle.meaning.specs.Task.{Task}
use Rattle.meaning.specs.Meaning.{State, is_true, applies}
use Rattle.searching.specs.Search.{Node, node_at, same, lowered, meet, stepped, Kept, fit, try_action, tried, cheapest, with_place, go_on, turn, turns}
use Rattle.searching.specs.Search.{found, full, Answer, answer}

abbrev pub states : List Node → List State
states = map (λ (n : Node). n.state)

-- a node met changes no state of the list; it may put its own at the end
pub meet_order : (F : ℕ) (ns : List Node) (x : Node)
    → (states (meet F ns x) ≡ states ns) ⊎ (states (meet F ns x) ≡ states ns ++ singleton x.state)
meet_order F [] x = inr refl
meet_order F (n ∷ ns) x = go (same F n.state x.state) (meet_order F ns x)
  where
    entry : (b : Bool) → (cond b (record { state = n.state; cost = x.cost; origin = x.origin; action = x.action }) n).state ≡ n.state
    entry true = refl
    entry false = refl

    go : (b : Bool) → (states (meet F ns x) ≡ states ns) ⊎ (states (meet F ns x) ≡ states ns ++ singleton x.state)
        → (states (cond b (lowered n x ∷ ns) (n ∷ meet F ns x)) ≡ n.state ∷ states ns)
        ⊎ (states (cond b (lowered n x ∷ ns) (n ∷ meet F ns x)) ≡ n.state ∷ states ns ++ singleton x.state)
    go true r = inl (ap (λ (s : State). s ∷ states ns) (entry (ltb x.cost n.cost)))
    go false (inl e) = inl (ap (λ (l : List State). n.state ∷ l) e)
    go false (inr e) = inr (ap (λ (l : List State). n.state ∷ l) e)

-- b begins with a
abbrev pub Begins : List State → List State → Type 0
Begins a b = (more : List State) × (b ≡ a ++ more)

begins_same : (a : List State) → Begins a a
begins_same a = ([], sym (append-nil a))

begins_on : (a b c : List State) → Begins a b → Begins b c → Begins a c
begins_on a b c (l, e) (m, f) = (l ++ m, f ∙ ap (λ (x : List State). x ++ m) e ∙ append_assoc a l m)

meet_begins : (F : ℕ) (ns : List Node) (x : Node) → Begins (states ns) (states (meet F ns x))
meet_begins F ns x = go (meet_order F ns x)
  where
    go : (states (meet F ns x) ≡ states ns) ⊎ (states (meet F ns x) ≡ states ns ++ singleton x.state) → Begins (states ns) (states (meet F ns x))
    go (inl e) = ([], e ∙ sym (append-nil (states ns)))
    go (inr e) = (singleton x.state, e)

module _ (t : Task) (limit : ℕ) where
  pub try_begins : (i : ℕ) (x : Node) (k : ℕ) (K : Kept) → Begins (states K.nodes) (states (try_action t limit i x k K).nodes)
  try_begins i x k K = go (not K.full && applies t x.state k)
    where
      fits : (b : Bool) → Begins (states K.nodes)
          (states (cond {A = Kept} b (record { nodes = meet t.facts K.nodes (stepped t i x k); full = false }) (record { nodes = K.nodes; full = true })).nodes)
      fits true = meet_begins t.facts K.nodes (stepped t i x k)
      fits false = begins_same (states K.nodes)

      go : (b : Bool) → Begins (states K.nodes) (states (cond b (fit limit K.nodes (meet t.facts K.nodes (stepped t i x k))) K).nodes)
      go true = fits (leb (length (meet t.facts K.nodes (stepped t i x k))) limit)
      go false = begins_same (states K.nodes)

  pub tried_begins : (i : ℕ) (x : Node) (ns : List Node) (n : ℕ) → Begins (states ns) (states (tried t limit i x ns n).nodes)
  tried_begins i x ns zero = begins_same (states ns)
  tried_begins i x ns (suc k) =
      begins_on (states ns) (states (tried t limit i x ns k).nodes) (states (tried t limit i x ns (suc k)).nodes)
      (tried_begins i x ns k) (try_begins i x k (tried t limit i x ns k))

  turn_begins : (next : List Node → (ℕ → Bool) → Answer) → ((ns : List Node) (taken : ℕ → Bool) → Begins (states ns) (states (next ns taken).nodes))
      → (ns : List Node) (taken : ℕ → Bool) (c : Option ℕ) → Begins (states ns) (states (turn t limit next ns taken c).nodes)
  turn_begins next f ns taken none = begins_same (states ns)
  turn_begins next f ns taken (some i) = by_goal (is_true (node_at ns i).state t.goal)
    where
      by_room : (K : Kept) (b : Bool) → Begins (states K.nodes)
          (states (cond b (answer full K.nodes) (next K.nodes (with_place i taken))).nodes)
      by_room K true = begins_same (states K.nodes)
      by_room K false = f K.nodes (with_place i taken)

      by_goal : (b : Bool) → Begins (states ns)
          (states (cond b (answer (found i) ns) (go_on next i taken (tried t limit i (node_at ns i) ns (length t.actions)))).nodes)
      by_goal true = begins_same (states ns)
      by_goal false =
          let K : Kept = tried t limit i (node_at ns i) ns (length t.actions) in
          begins_on (states ns) (states K.nodes) (states (go_on next i taken K).nodes)
          (tried_begins i (node_at ns i) ns (length t.actions)) (by_room K K.full)

  pub turns_begins : (n : ℕ) (ns : List Node) (taken : ℕ → Bool) → Begins (states ns) (states (turns t limit n ns taken).nodes)
  turns_begins zero ns taken = begins_same (states ns)
  turns_begins (suc n) ns taken = turn_begins (turns t limit n) (turns_begins n) ns taken (cheapest ns taken (length ns))
