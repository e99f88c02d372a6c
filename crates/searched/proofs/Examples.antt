-- Search on small files, computed.
use mathlib.Core.Path.{◌≡◌, refl}
use mathlib.Core.List.{List, [], ◌∷◌, map}
use Prim.Native.Nat.{ℕ}
use Rattle.lists.specs.Lists.{singleton}
use Rattle.task.specs.File.{file_of}
use Rattle.task.specs.Check.{check, check_rows}
use Rattle.task.proofs.Belt.{belt}
use Rattle.searching.specs.Search.{Node, explore}
use Rattle.searching.proofs.Examples.{has, move}
use Rattle.searched.specs.Searched.{found, no_plan, full, refused, search_file}

-- from fact 0 to a goal, directly for 5, or by fact 1 for 4
abbrev pub file : ℕ → List ℕ
file goal =
    file_of (record { facts = 4; start = singleton 0; goal = has goal; actions = move 5 0 2 ∷ move 3 0 1 ∷ move 1 1 2 ∷ []; preferences = [] })

abbrev costs : List Node → List ℕ
costs = map (λ (n : Node). n.cost)

solved : (search_file (file 2) 3 3).answer ≡ found (1 ∷ 2 ∷ []) 4
unfolding search_file check check_rows explore
solved = refl

kept : costs (search_file (file 2) 3 3).kept ≡ 0 ∷ 4 ∷ 3 ∷ []
unfolding search_file check check_rows explore
kept = refl

unsolved : (search_file (file 3) 3 3).answer ≡ no_plan
unfolding search_file check check_rows explore
unsolved = refl

crowded : (search_file (file 2) 2 3).answer ≡ full
unfolding search_file check check_rows explore
crowded = refl

-- Refusals, in their order

shortened : search_file [] 0 0 ≡ record { answer = refused 1 0; kept = [] }
unfolding search_file check check_rows
shortened = refl

-- the belt has preferences
preferring : (search_file belt 0 0).answer ≡ refused 13 0
unfolding search_file check check_rows
preferring = refl

no_limit : (search_file (file 2) 0 3).answer ≡ refused 16 0
unfolding search_file check check_rows
no_limit = refl

over_list : (search_file (file 2) 4 3).answer ≡ refused 16 0
unfolding search_file check check_rows
over_list = refl

over_most : (search_file (file 2) 1025 2000).answer ≡ refused 16 0
unfolding search_file check check_rows
over_most = refl
