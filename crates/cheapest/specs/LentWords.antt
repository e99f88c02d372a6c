-- A list of words after a search.
use Rattle.std.specs.Prelude.{◌≡◌, List, ℕ, ◌*◌, length, drop, Result, Ok, Err}
use Rattle.searching.specs.Search.{Node}
use Rattle.node_words.specs.Words.{nodes_of}
use Rattle.finding.specs.declared.Sought.{Sought}
use Rattle.finding.specs.declared.Sought.TheVariants.{Found, NoPlan, Full}

-- how many nodes are kept, none after a refusal of any kind
abbrev pub nodes_in : {E : Type 0} → Result Sought E → ℕ
nodes_in (Ok (Found r n)) = n
nodes_in (Ok (NoPlan n)) = n
nodes_in (Ok (Full n)) = n
nodes_in (Err r) = 0

-- it begins with the nodes kept, four words for each, and its rest is as it was
pub record LentWords (kept : List Node) (before after : List ℕ) : Type 0 where
  pub begins : nodes_of after (length kept) ≡ kept
  pub rest : drop (4 * length kept) after ≡ drop (4 * length kept) before
