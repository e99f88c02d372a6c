-- Request 12: the first n bytes of the area hold a task without "or" in its effects that means what the task in b means.
use Rattle.std.specs.Prelude.{◌≡◌, List, ℕ, T, take}
use Rattle.lists.specs.Lists.{all}
use Rattle.meaning.specs.Task.{Task}
use Rattle.meaning.specs.Meaning.{solves}
use Rattle.task.specs.File.{sizes, task_of, with_rows}
use Rattle.task.specs.Check.{check, accepted}
use Rattle.alike.specs.Alike.{Alike, JudgedAlike}
use Rattle.classical.specs.Claim.{Faithful}
use Rattle.singling.specs.Singled.{single_effects, singled_rows}

-- accepting: it is a task file, with the sizes of b but for its rows;
-- single: every condition of an effect has clauses of one literal;
-- meaning: from every state each action leads where it led, at the same cost;
-- judging, solving: so every plan has the same verdict, amounts and met preferences, and solves the one exactly if it solves the other;
-- faithfully: so where b is a translation, solutions still pay their source part's metric
pub record Delivered (b area : List ℕ) (n : ℕ) : Type 0 where
  pub accepting : check (take n area) ≡ accepted (with_rows (sizes b) (singled_rows b))
  pub single : T (all single_effects (task_of (take n area)).actions)
  pub meaning : Alike (task_of b) (task_of (take n area))
  pub judging : (p : List ℕ) → JudgedAlike (task_of b) (task_of (take n area)) p
  pub solving : (p : List ℕ) → solves (task_of b) p ≡ solves (task_of (take n area)) p
  pub faithfully : (s : Task) → Faithful s (task_of b) → Faithful s (task_of (take n area))
