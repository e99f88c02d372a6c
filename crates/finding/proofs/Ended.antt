-- What is delivered at the end of a search.
use mathlib.Core.Path.{◌≡◌, sym, ◌∙◌, ap, subst}
use mathlib.Core.List.{List, ◌++◌}
use Prim.Native.Nat.{ℕ, ◌≤◌, ◌<◌}
use native.Mathlib.Omega.{arith}
use lib.ListN.{length, take, drop}
use lib.Seq.{take_at}
use Rattle.meaning.specs.Task.{Task}
use Rattle.searching.specs.Search
use Rattle.searching.specs.Search.{Node, found, no_plan, full, explore, plan_to}
use Rattle.searching.proofs.Turns.{Found, Right}
use Rattle.searching.proofs.Explored.{explored, when_found}
use Rattle.node_words.specs.Words.{packed_at, nodes_of}
use Rattle.node_words.proofs.Lists.{nodes_length, node_is}
use Rattle.origins.specs.Origins.{Inside}
use Rattle.searched.proofs.Small.{origins_inside}
use Rattle.searched.specs.Searched
use Rattle.searched.specs.Searched.{Searched, searched}
use Rattle.exploring.specs.Exploring.{as_answer}
use Rattle.exploring.specs.declared.Ended
use Rattle.exploring.specs.declared.Ended.TheVariants
use Rattle.finding.specs.Finding.{plan_after, Ending}

module _ (words : List ℕ) (e : Ended.Ended) (t : Task) (limit : ℕ) (E : Ending words e t limit) where
  abbrev ns : List Node
  ns = (explore t limit).nodes

  right : Right t limit (explore t limit)
  right = explored t E.formed limit E.allowed.some E.plain

  -- so many nodes are kept
  count : (n : ℕ) → nodes_of words n ≡ ns → n ≤ limit
  count n q = omega (arith, nodes_length words n, ap length q, right.listed.room)

  -- the search ended in place i
  module _ (i n : ℕ) (at : e ≡ TheVariants.Found i n) where
    ends : Search.answer (found i) (nodes_of words n) ≡ explore t limit
    ends = ap (as_answer words) (sym at) ∙ E.answers

    nodes : nodes_of words n ≡ ns
    nodes = ap (λ (a : Search.Answer). a.nodes) ends

    outcome : (explore t limit).outcome ≡ found i
    outcome = sym (ap (λ (a : Search.Answer). a.outcome) ends)

    plan_is : Found t limit ns i
    plan_is = when_found t E.formed limit E.allowed.some E.plain i outcome

    pub few : n ≤ 1024
    few = omega (arith, count n nodes, E.allowed.few)

    pub placed : i < n
    placed = omega (arith, nodes_length words n, ap length nodes, plan_is.inside)

    pub inside : Inside (nodes_of words n)
    inside = subst Inside (sym nodes) (origins_inside t E.formed E.plain limit E.allowed.some)

    pub short : length (plan_to (nodes_of words n) i) ≤ 1023
    short = omega (arith, ap (λ (l : List Node). length (plan_to l i)) nodes, plan_is.short, E.allowed.few)

    pub delivered : (steps cost : ℕ) (before after : List ℕ) → steps ≡ length (plan_to (nodes_of words n) i) → cost ≡ (packed_at words i).cost
        → after ≡ plan_to (nodes_of words n) i ++ drop steps before
        → (◌≡◌ {A = Searched} (record { answer = Searched.found (take steps after) cost; kept = nodes_of words n }) (searched (explore t limit)))
        × (after ≡ plan_after (searched (explore t limit)).answer before)
    delivered steps cost before after many price holds = (
      (λ j. record { answer = Searched.found (plan j) ((price ∙ sym (ap (λ (y : Node). y.cost) (node_is words n i placed))) j); kept = nodes_of words n })
          ∙ ap searched ends,
      holds ∙ ap (λ (k : ℕ). plan_to (nodes_of words n) i ++ drop k before) many
          ∙ ap (λ (a : Search.Answer). plan_after (searched a).answer before) ends,
    )
      where
        plan : take steps after ≡ plan_to (nodes_of words n) i
        plan = ap (take steps) holds ∙ take_at (plan_to (nodes_of words n) i) (drop steps before) steps (sym many)

  -- Without a plan

  pub none_few : (n : ℕ) → e ≡ TheVariants.NoPlan n → n ≤ 1024
  none_few n at = omega (arith, count n (ap (λ (a : Search.Answer). a.nodes) (ap (as_answer words) (sym at) ∙ E.answers)), E.allowed.few)

  pub full_few : (n : ℕ) → e ≡ TheVariants.Full n → n ≤ 1024
  full_few n at = omega (arith, count n (ap (λ (a : Search.Answer). a.nodes) (ap (as_answer words) (sym at) ∙ E.answers)), E.allowed.few)

  pub none_delivered : (n : ℕ) → e ≡ TheVariants.NoPlan n → (area : List ℕ)
      → (◌≡◌ {A = Searched} (record { answer = Searched.no_plan; kept = nodes_of words n }) (searched (explore t limit)))
      × (area ≡ plan_after (searched (explore t limit)).answer area)
  none_delivered n at area =
      let ends : Search.answer no_plan (nodes_of words n) ≡ explore t limit = ap (as_answer words) (sym at) ∙ E.answers in
      (ap searched ends, ap (λ (a : Search.Answer). plan_after (searched a).answer area) ends)

  pub full_delivered : (n : ℕ) → e ≡ TheVariants.Full n → (area : List ℕ)
      → (◌≡◌ {A = Searched} (record { answer = Searched.full; kept = nodes_of words n }) (searched (explore t limit)))
      × (area ≡ plan_after (searched (explore t limit)).answer area)
  full_delivered n at area =
      let ends : Search.answer full (nodes_of words n) ≡ explore t limit = ap (as_answer words) (sym at) ∙ E.answers in
      (ap searched ends, ap (λ (a : Search.Answer). plan_after (searched a).answer area) ends)
