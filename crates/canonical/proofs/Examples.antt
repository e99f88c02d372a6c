-- One task in two spellings, computed.
use mathlib.Core.Path.{◌≡◌, refl}
use mathlib.Core.Bool.{true, false}
use mathlib.Core.List.{List, [], ◌∷◌}
use Prim.Native.Nat.{ℕ}
use Rattle.lists.specs.Lists.{singleton}
use Rattle.meaning.specs.Task.{Task, Clause, sometime_before}
use Rattle.task.specs.File.{file_of}
use Rattle.canonical.specs.Canonical.{literal, literals, canonical_clause, canonical_facts, canonical, respelled}

all-literals : literals 2 ≡ literal true 0 ∷ literal false 0 ∷ literal true 1 ∷ literal false 1 ∷ []
all-literals = refl

-- HOLDS and LACKS of one fact both stay
a_clause : canonical_clause 4 (literal false 2 ∷ literal true 3 ∷ literal true 2 ∷ literal false 0 ∷ literal true 3 ∷ [])
    ≡ literal false 0 ∷ literal true 2 ∷ literal false 2 ∷ literal true 3 ∷ []
a_clause = refl

some_facts : canonical_facts 4 (3 ∷ 0 ∷ 3 ∷ 1 ∷ []) ≡ 0 ∷ 1 ∷ 3 ∷ []
some_facts = refl

-- a fact both added and deleted stays in both; clauses keep their order, and equal clauses both stay
abbrev spelling : Clause → List ℕ → List ℕ → Task
spelling c added deleted =
    record {
      facts = 3;
      start = 0 ∷ 2 ∷ [];
      goal = c ∷ singleton (literal true 0) ∷ c ∷ [];
      actions = singleton (record { cost = 7; precondition = singleton c; effects = singleton (record { condition = singleton c; adds = added; deletes = deleted }) });
      preferences = singleton (record { kind = sometime_before; hard = false; weight = 5; first = singleton c; second = singleton c });
    }

abbrev loose : Task
loose = spelling (literal false 2 ∷ literal true 1 ∷ literal false 2 ∷ []) (2 ∷ 0 ∷ 2 ∷ []) (2 ∷ 1 ∷ [])

abbrev strict : Task
strict = spelling (literal true 1 ∷ literal false 2 ∷ []) (0 ∷ 2 ∷ []) (1 ∷ 2 ∷ [])

loose_respelled : canonical loose ≡ strict
unfolding canonical
loose_respelled = refl

strict_stays : canonical strict ≡ strict
unfolding canonical
strict_stays = refl

file_respelled : respelled (file_of loose) ≡ file_of strict
unfolding canonical
file_respelled = refl
