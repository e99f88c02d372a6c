-- The numbers of refusals.
use Rattle.std.specs.Prelude.{ℕ}

-- under 8 bytes
abbrev pub SHORT_FILE : ℕ
SHORT_FILE = 1

-- a size out of range
abbrev pub SIZE : ℕ
SIZE = 2

-- a length that is not 8 + 5 × N
abbrev pub LENGTH : ℕ
LENGTH = 3

-- a mark that may not stand there, or rows that end inside a task
abbrev pub MARK : ℕ
MARK = 4

-- a value that its mark does not allow
abbrev pub VALUE : ℕ
VALUE = 5

-- ACTION rows or preferences of another number than the sizes say
abbrev pub COUNTS : ℕ
COUNTS = 6

-- a translation of more facts or actions than a task may have
abbrev pub TOO_MANY : ℕ
TOO_MANY = 7

-- a translation of more rows than a file may have
abbrev pub TRANSLATION_ROWS : ℕ
TRANSLATION_ROWS = 8

-- an area shorter than the output
abbrev pub SHORT_OUTPUT : ℕ
SHORT_OUTPUT = 9

-- a plan of more than 2,048 steps
abbrev pub LONG_PLAN : ℕ
LONG_PLAN = 10

-- a step that the task has not
abbrev pub STEP : ℕ
STEP = 11

-- a text that is no plan
abbrev pub TEXT : ℕ
TEXT = 12

-- preferences, where a task may have none
abbrev pub PREFERENCES : ℕ
PREFERENCES = 13

-- an area shorter than its PDDL text
abbrev pub SHORT_AREA : ℕ
SHORT_AREA = 14

-- a cost or a met preference that no plan can have
abbrev pub ARGUMENT : ℕ
ARGUMENT = 15

-- a limit of 0, over 1,024 or over the lent list
abbrev pub LIMIT : ℕ
LIMIT = 16

-- an effect of more than 64 choices
abbrev pub CHOICES : ℕ
CHOICES = 17

-- a file that is no plans
abbrev pub PLANS : ℕ
PLANS = 18
