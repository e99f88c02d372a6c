-- The plans of a file, by number.
use mathlib.Core.Path.{◌≡◌, ◌∙◌}
use mathlib.Core.List.{List}
use Prim.Native.Nat.{ℕ}
use lib.ListN.{length, length-map}
use Rattle.lists.proofs.Ranges.{length-range}
use Rattle.lists.specs.Lists.{range}
use Rattle.figures.specs.Plans.{count, entry_at, entries}

pub length-entries : (f : List ℕ) → length (entries f) ≡ count f
length-entries f = length-map (range 0 (count f)) (entry_at f) ∙ length-range 0 (count f)
