-- The one spelling as code writes it: a clause's literals are gathered in two sets of facts, and written by rising fact.
use Rattle.std.specs.Prelude.{Bool, true, false, not, cond, ◌&&◌, List, [], ◌++◌, ℕ, eqb}
use Rattle.lists.specs.Lists.{singleton, any, concat_map, range}
use Rattle.meaning.specs.Task.{Literal, Clause}
use Rattle.meaning.specs.Meaning.{State}
use Rattle.canonical.specs.Canonical.{literal}

-- the facts that a clause says are held, and those that it says are lacked
abbrev pub holds_in : Clause → State
holds_in c n = any (λ (l : Literal). l.holds && eqb n l.fact) c

abbrev pub lacks_in : Clause → State
lacks_in c n = any (λ (l : Literal). not l.holds && eqb n l.fact) c

abbrev pub when : {A : Type 0} → Bool → A → List A
when b x = cond b (singleton x) []

abbrev pub literals_by_sets : State → State → ℕ → List Literal
literals_by_sets held lacked F = concat_map (λ (n : ℕ). when (held n) (literal true n) ++ when (lacked n) (literal false n)) (range 0 F)

abbrev pub facts_by_set : State → ℕ → List ℕ
facts_by_set s F = concat_map (λ (n : ℕ). when (s n) n) (range 0 F)
