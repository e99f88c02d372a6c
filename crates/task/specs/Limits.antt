-- What is allowed: sizes, amounts, steps and texts.
use Rattle.std.specs.Prelude.{ℕ, ◌+◌, ◌*◌}

abbrev pub MAX_FACTS : ℕ
MAX_FACTS = 128

abbrev pub MAX_ACTIONS : ℕ
MAX_ACTIONS = 128

abbrev pub MAX_PREFERENCES : ℕ
MAX_PREFERENCES = 16

abbrev pub MAX_ROWS : ℕ
MAX_ROWS = 12000

-- a cost, or a soft preference's weight: any number of 32 bits
abbrev pub MAX_AMOUNT : ℕ
MAX_AMOUNT = 4294967295

-- the bytes of the longest file
abbrev pub MAX_FILE : ℕ
MAX_FILE = 8 + 5 * MAX_ROWS

-- the steps of within and always-within
abbrev pub MAX_DEADLINE : ℕ
MAX_DEADLINE = 15

-- how many there are
abbrev pub DEADLINES : ℕ
DEADLINES = MAX_DEADLINE + 1

-- of a plan
abbrev pub MAX_STEPS : ℕ
MAX_STEPS = 2048

-- bytes of a plan's text
abbrev pub MAX_TEXT : ℕ
MAX_TEXT = 65536

-- of a plan: so many steps of the largest amount
abbrev pub MAX_COST : ℕ
MAX_COST = MAX_STEPS * MAX_AMOUNT

-- of an effect, a literal from every clause
abbrev pub MAX_CHOICES : ℕ
MAX_CHOICES = 64

-- of a week
abbrev pub MAX_PLANS : ℕ
MAX_PLANS = 64
