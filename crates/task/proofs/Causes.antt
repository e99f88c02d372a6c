-- The number of a cause tells the cause.
use mathlib.Core.Path.{◌≡◌, refl}
use Rattle.task.specs.Answers.{number_of, cause_of}
use Rattle.task.specs.declared.refused.Cause.{Cause}
use Rattle.task.specs.declared.refused.Cause.TheVariants.{ShortFile, Size, Length, Mark, Value, Counts, TooMany, TranslationRows, ShortOutput}
use Rattle.task.specs.declared.refused.Cause.TheVariants.{LongPlan, Step, Text, Preferences, ShortArea, Argument, Limit, Choices, Plans}

pub cause_back : (x : Cause) → cause_of (number_of x) ≡ x
cause_back ShortFile = refl
cause_back Size = refl
cause_back Length = refl
cause_back Mark = refl
cause_back Value = refl
cause_back Counts = refl
cause_back TooMany = refl
cause_back TranslationRows = refl
cause_back ShortOutput = refl
cause_back LongPlan = refl
cause_back Step = refl
cause_back Text = refl
cause_back Preferences = refl
cause_back ShortArea = refl
cause_back Argument = refl
cause_back Limit = refl
cause_back Choices = refl
cause_back Plans = refl
