-- The file of a week's plans: document 02, request 14. Little-endian: a count, the starts, the lengths, then the step bytes to the end.
use Rattle.std.specs.Prelude.{Bool, ◌&&◌, List, ◌++◌, map, ℕ, ◌+◌, ◌*◌, leb, length, take, drop}
use Rattle.lists.specs.Lists.{all, concat_map, range}
use Rattle.task.specs.File.{word16, bytes16}
use Rattle.task.specs.Limits.{MAX_PLANS}

abbrev pub count : List ℕ → ℕ
count f = word16 f 0

-- where a plan stands among the step bytes: start counts from the first of them
pub record Entry : Type 0 where
  pub start : ℕ
  pub steps : ℕ

-- number i of the two arrays
abbrev pub entry_at : List ℕ → ℕ → Entry
entry_at f i = record { start = word16 f (2 + 2 * i); steps = word16 f (2 + 2 * count f + 2 * i) }

abbrev pub entries : List ℕ → List Entry
entries f = map (entry_at f) (range 0 (count f))

abbrev pub step_bytes : List ℕ → List ℕ
step_bytes f = drop (2 + 4 * count f) f

-- the plan that an entry names
abbrev pub plan_of : List ℕ → Entry → List ℕ
plan_of bytes e = take e.steps (drop e.start bytes)

-- plans may overlap
abbrev pub plans : List ℕ → List (List ℕ)
plans f = map (plan_of (step_bytes f)) (entries f)

-- a count from 1 to 64, and a file long enough for it and for the arrays
abbrev pub headed : List ℕ → Bool
headed f = leb 2 (length f) && leb 1 (count f) && leb (count f) MAX_PLANS && leb (2 + 4 * count f) (length f)

-- the plan stands within the step bytes, one of no steps too
abbrev pub stands : List ℕ → Entry → Bool
stands bytes e = leb (e.start + e.steps) (length bytes)

-- all other files are refused by 18
unfoldable pub readable : List ℕ → Bool
readable f = headed f && all (stands (step_bytes f)) (entries f)

-- The file of some entries over step bytes

abbrev pub starts : List Entry → List ℕ
starts = concat_map (λ (e : Entry). bytes16 e.start)

abbrev pub lengths : List Entry → List ℕ
lengths = concat_map (λ (e : Entry). bytes16 e.steps)

abbrev pub file_of : List Entry → List ℕ → List ℕ
file_of es bytes = bytes16 (length es) ++ (starts es ++ (lengths es ++ bytes))
