-- The words of answers on the belt: what the definitions give, and what they should.
use mathlib.Core.Path.{◌≡◌, refl}
use mathlib.Core.List.{List, [], ◌∷◌, map}
use Prim.Native.Nat.{ℕ, ◌-◌, ◌^◌}
use lib.ListN.{replicate}
use Rattle.task.specs.Check.{check, check_rows}
use Rattle.meaning.specs.Literals.{literals}
use Rattle.meaning.specs.Verdict.{verdict}
use Rattle.task.proofs.Belt.{belt}
use Rattle.state.specs.Member.{bit}
use Rattle.plan.specs.Judged.{judged}
use Rattle.plan.specs.Walked.{given, stopped, rule_missed, walked}
use Rattle.settling.specs.Settled.{settled}
use Rattle.figures.specs.Plans.{readable}
use Rattle.figures.specs.Week.{week_of}
use Rattle.classical.specs.Translation.{translated}
use Rattle.translation.specs.Translated.{outcome}
use Rattle.canonical.specs.Canonical.{canonical}
use Rattle.spelling.specs.Outcome.{outcome as spelled}
use Rattle.outcome.specs.Outcome
use Rattle.singling.specs.Singled.{singled}
use Rattle.singling.specs.Outcome.{outcome as single_outcome}
use Rattle.words.specs.Numbers.{Call, call, bits, of_check, of_outcome, of_walk, of_settle, of_week, of_losses, of_search}
use Rattle.translation.specs.Measured.{measured}
use Rattle.losses.specs.Losses.{lost_after}
use Rattle.lost.specs.Answered.{answered}
use Rattle.searching.specs.Search.{explore}
use Rattle.searched.specs.Searched.{search_file}
use Rattle.searched.proofs.Examples.{file}

pub record Example : Type 0 where
  pub given : Call
  pub number : ℕ
  pub words : List ℕ

abbrev example : Call → ℕ → List ℕ → Example
example c n ws = record { given = c; number = n; words = ws }

abbrev examples : List Example
examples =
    example (of_check (check belt)) 0 (0 ∷ 2 ∷ 2 ∷ 2 ∷ 18 ∷ 0 ∷ 0 ∷ 0 ∷ [])
    ∷ example (of_check (check [])) 1 (0 ∷ 0 ∷ 0 ∷ 0 ∷ 0 ∷ 0 ∷ 0 ∷ 0 ∷ [])
    ∷ example (of_outcome (outcome belt 473)) 0 (0 ∷ 473 ∷ 0 ∷ 0 ∷ 0 ∷ 0 ∷ 0 ∷ 0 ∷ [])
    ∷ example (of_outcome (outcome belt 472)) 9 (0 ∷ 0 ∷ 0 ∷ 0 ∷ 0 ∷ 0 ∷ 0 ∷ 0 ∷ [])
    -- the belt's 18 rows stay
    ∷ example (of_outcome (spelled belt 98)) 0 (0 ∷ 98 ∷ 0 ∷ 0 ∷ 0 ∷ 0 ∷ 0 ∷ 0 ∷ [])
    ∷ example (of_outcome (spelled belt 97)) 9 (0 ∷ 0 ∷ 0 ∷ 0 ∷ 0 ∷ 0 ∷ 0 ∷ 0 ∷ [])
    -- its effects have one choice each, and stay
    ∷ example (of_outcome (single_outcome belt 98)) 0 (0 ∷ 98 ∷ 0 ∷ 0 ∷ 0 ∷ 0 ∷ 0 ∷ 0 ∷ [])
    ∷ example (of_outcome (single_outcome belt 97)) 9 (0 ∷ 0 ∷ 0 ∷ 0 ∷ 0 ∷ 0 ∷ 0 ∷ 0 ∷ [])
    ∷ example (of_outcome (Outcome.refused 17 30)) 17 (30 ∷ 0 ∷ 0 ∷ 0 ∷ 0 ∷ 0 ∷ 0 ∷ 0 ∷ [])
    -- preference 1 is met, so bit 1 is set; 5 literals are looked at
    ∷ example (of_walk (walked belt (0 ∷ []))) 0 (0 ∷ 1 ∷ 0 ∷ 3 ∷ 2 ∷ 5 ∷ 0 ∷ 0 ∷ [])
    ∷ example (of_settle (settled belt 3 (bit 2))) 0 (0 ∷ 8 ∷ 4 ∷ 0 ∷ 0 ∷ 0 ∷ 0 ∷ 0 ∷ [])
    -- a utility of -2
    ∷ example (of_walk (walked belt (0 ∷ 0 ∷ 0 ∷ []))) 0 (0 ∷ 1 ∷ 0 ∷ 9 ∷ 2 ∷ 9 ∷ 0 ∷ 0 ∷ [])
    ∷ example (of_settle (settled belt 9 (bit 2))) 0 (0 ∷ 14 ∷ (2 ^ 64 - 2) ∷ 0 ∷ 0 ∷ 0 ∷ 0 ∷ 0 ∷ [])
    ∷ example (of_walk (given (stopped 10) 77)) 0 (0 ∷ 2 ∷ 10 ∷ 0 ∷ 0 ∷ 77 ∷ 0 ∷ 0 ∷ [])
    ∷ example (of_walk (given (rule_missed 3) 77)) 0 (0 ∷ 4 ∷ 3 ∷ 0 ∷ 0 ∷ 77 ∷ 0 ∷ 0 ∷ [])
    ∷ example (of_walk (walked belt [])) 0 (0 ∷ 3 ∷ 0 ∷ 0 ∷ 0 ∷ 3 ∷ 0 ∷ 0 ∷ [])
    ∷ example (of_walk (walked belt (0 ∷ 2 ∷ []))) 11 (1 ∷ 0 ∷ 0 ∷ 0 ∷ 0 ∷ 0 ∷ 0 ∷ 0 ∷ [])
    -- the largest cost, and one more; a preference that is not there
    ∷ example (of_settle (settled belt 8796093020160 (bit 3))) 0 (0 ∷ 8796093020160 ∷ (2 ^ 64 - 8796093020148) ∷ 0 ∷ 0 ∷ 0 ∷ 0 ∷ 0 ∷ [])
    ∷ example (of_settle (settled belt 8796093020161 (bit 0))) 15 (0 ∷ 0 ∷ 0 ∷ 0 ∷ 0 ∷ 0 ∷ 0 ∷ 0 ∷ [])
    ∷ example (of_settle (settled belt 0 (bit 4))) 15 (0 ∷ 0 ∷ 0 ∷ 0 ∷ 0 ∷ 0 ∷ 0 ∷ 0 ∷ [])
    ∷ example (of_settle (settled [] 8796093020161 (bit 0))) 1 (0 ∷ 0 ∷ 0 ∷ 0 ∷ 0 ∷ 0 ∷ 0 ∷ 0 ∷ [])
    -- four plans over the steps 0 1 0, of which three solve; plans of no steps, which don't; an unknown step in plan 1
    ∷ example (of_week (week_of belt (4 ∷ 0 ∷ 0 ∷ 0 ∷ 0 ∷ 0 ∷ 3 ∷ 0 ∷ 2 ∷ 0 ∷ 3 ∷ 0 ∷ 1 ∷ 0 ∷ 0 ∷ 0 ∷ 1 ∷ 0 ∷ 0 ∷ 1 ∷ 0 ∷ []))) 0
    (0 ∷ 3 ∷ 8 ∷ 12 ∷ 28 ∷ 9 ∷ 1 ∷ 0 ∷ 0 ∷ 3 ∷ replicate 14 0)
    ∷ example (of_week (week_of belt (1 ∷ 0 ∷ 0 ∷ 0 ∷ 0 ∷ 0 ∷ []))) 0 (replicate 24 0)
    ∷ example (of_week (week_of belt (2 ∷ 0 ∷ 0 ∷ 0 ∷ 0 ∷ 0 ∷ 1 ∷ 0 ∷ 2 ∷ 0 ∷ 0 ∷ 2 ∷ []))) 11 (1 ∷ replicate 23 0)
    ∷ example (of_week (week_of belt [])) 18 (replicate 24 0)
    -- rule 0 is lost once its state is left, and no more once it is forgone; collect 0 asks that it is met; 7 is no action
    ∷ example (of_losses (answered belt (0 ∷ 2 ∷ []))) 0 (0 ∷ 1 ∷ 0 ∷ 3 ∷ 5 ∷ 0 ∷ 0 ∷ 0 ∷ [])
    ∷ example (of_losses (answered belt (0 ∷ 2 ∷ 4 ∷ []))) 0 (0 ∷ 1 ∷ 0 ∷ 8 ∷ 0 ∷ 0 ∷ 0 ∷ 0 ∷ [])
    ∷ example (of_losses (answered belt (0 ∷ 2 ∷ 3 ∷ []))) 0 (0 ∷ 2 ∷ 2 ∷ 0 ∷ 0 ∷ 0 ∷ 0 ∷ 0 ∷ [])
    ∷ example (of_losses (answered belt (0 ∷ 7 ∷ []))) 11 (1 ∷ 0 ∷ 0 ∷ 0 ∷ 0 ∷ 0 ∷ 0 ∷ 0 ∷ [])
    -- two steps that cost 4, and three nodes; no plan; a list that is full
    ∷ example (of_search (search_file (file 2) 3 3)) 0 (0 ∷ 1 ∷ 4 ∷ 2 ∷ 3 ∷ 0 ∷ 0 ∷ 0 ∷ [])
    ∷ example (of_search (search_file (file 3) 3 3)) 0 (0 ∷ 2 ∷ 0 ∷ 0 ∷ 3 ∷ 0 ∷ 0 ∷ 0 ∷ [])
    ∷ example (of_search (search_file (file 2) 2 3)) 0 (0 ∷ 3 ∷ 0 ∷ 0 ∷ 2 ∷ 0 ∷ 0 ∷ 0 ∷ [])
    ∷ example (of_search (search_file (file 2) 4 3)) 16 (0 ∷ 0 ∷ 0 ∷ 0 ∷ 0 ∷ 0 ∷ 0 ∷ 0 ∷ [])
    ∷ example (of_search (search_file belt 1 1)) 13 (0 ∷ 0 ∷ 0 ∷ 0 ∷ 0 ∷ 0 ∷ 0 ∷ 0 ∷ [])
    ∷ []

pub as_said : map (λ (e : Example). e.given) examples ≡ map (λ (e : Example). call e.number e.words) examples
unfolding check check_rows judged verdict literals walked settled bit translated outcome canonical spelled bits week_of readable singled single_outcome measured lost_after answered search_file explore
as_said = refl
