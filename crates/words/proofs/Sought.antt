-- The words of what a search over words answers are those of the search that it stands for.
use mathlib.Core.Path.{◌≡◌, ap}
use mathlib.Core.Bool.{Bool, true, false, true≢false}
use mathlib.Core.List.{List}
use Rattle.std.specs.Prelude.{Result, Ok, Err}
use Prim.Native.Nat.{ℕ}
use lib.ListN.{length}
use Rattle.task.specs.declared.Refusal.{Refusal}
use Rattle.searched.specs.Searched.{Answer, found, no_plan, full, refused, Searched}
use Rattle.finding.specs.declared.Sought.{Sought}
use Rattle.finding.specs.Finding.{as_searched, sought_by, as_sought}
use Rattle.words.specs.Numbers.{of_found, of_search, of_sought}

abbrev is_ok : Result Sought Refusal → Bool
is_ok (Ok s) = true
is_ok (Err r) = false

by_answer : (s : Sought) (x : Answer) (n : ℕ) → Ok s ≡ sought_by x n → of_sought (Ok s) ≡ of_found x n
by_answer s (found p c) n e = ap of_sought e
by_answer s no_plan n e = ap of_sought e
by_answer s full n e = ap of_sought e
by_answer s (refused k i) n e = absurd (true≢false (ap is_ok e))

-- r is the whole answer, and the plan and the words hold what it says
pub sought_words : (r : Result Sought Refusal) (plan words : List ℕ) (x : Searched) → r ≡ as_sought x → as_searched plan words r ≡ x → of_sought r ≡ of_search x
sought_words (Ok s) plan words x e h = by_answer s x.answer (length x.kept) e
sought_words (Err r) plan words x e h = ap of_search h
