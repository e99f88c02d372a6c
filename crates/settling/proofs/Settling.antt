-- Settling: the test of its arguments, and its answer from what check answers.
use mathlib.Core.Path.{◌≡◌, refl, sym, ap, ◌∙◌}
use mathlib.Core.Bool.{Bool, true, false, not, ◌&&◌, ◌||◌}
use mathlib.Core.List.{List}
use Rattle.std.specs.Prelude.{Result, Err}
use Prim.Native.Nat.{ℕ, zero, suc, ◌+◌, ◌-◌, ◌/◌, ◌%◌, ◌^◌, ◌≤◌, ◌<◌}
use native.Mathlib.Nat.{add-zero, div-eq_of_lt, div-div-eq-div-mul, pow-suc}
use native.Mathlib.Numerals.{add-one}
use native.Mathlib.Omega.{arith}
use lib.Dec.{T, eqb, leb, leb→le}
use borrow.Author.Tests.{eqb-true, eqb-false}
use Rattle.lists.specs.Lists.{any, range}
use Rattle.meaning.specs.Task.{Task}
use Rattle.task.specs.TaskRows.{task_rows}
use Rattle.task.specs.File.{task_of}
use Rattle.task.specs.Check
use Rattle.task.specs.Check.{check}
use Rattle.task.specs.Limits.{MAX_COST}
use Rattle.task.specs.Answers.{number_of, answer as checked, as_sizes}
use Rattle.task.specs.declared.Sizes.{Sizes}
use Rattle.task.specs.declared.Refusal.{Refusal}
use Rattle.lists.proofs.Tests.{tests, as_t}
use Rattle.task.proofs.Checking.{within, parts_of}
use Rattle.task.proofs.Answered.{passed_on, parts_spell}
use Rattle.task.proofs.Spelled.{accepted_spelling}
use Rattle.state.specs.Member.{bit}
use Rattle.settling.specs.Settled.{Settled, refused, worth_of, arguments_allowed, settled_by, settled}

-- The arguments

-- a number is 0 where its last digit and its half are
halves : (d : ℕ) → eqb d 0 ≡ not (eqb (d % 2) 1 || not (eqb (d / 2) 0))
halves d = go (eqb d 0) refl (eqb (d % 2) 1) refl (eqb (d / 2) 0) refl
  where
    go : (x : Bool) → eqb d 0 ≡ x → (y : Bool) → eqb (d % 2) 1 ≡ y → (z : Bool) → eqb (d / 2) 0 ≡ z → x ≡ not (y || not z)
    go true p true q z r = absurd (omega (arith, eqb-true d 0 p, eqb-true (d % 2) 1 q))
    go true p false q true r = refl
    go true p false q false r = absurd (eqb-false (d / 2) 0 r (omega (arith, eqb-true d 0 p)))
    go false p true q z r = refl
    go false p false q true r = absurd (eqb-false d 0 p (omega (arith, eqb-false (d % 2) 1 q, eqb-true (d / 2) 0 r)))
    go false p false q false r = refl

-- w >> P is 0 where no bit from P on is set
shifted_out : (w P n : ℕ) → w < 2 ^ (P + n) → eqb (w / 2 ^ P) 0 ≡ not (any (bit w) (range P n))
unfolding bit
shifted_out w P zero h = let l : w < 2 ^ P = rw (← add-zero P) h in rw (div-eq_of_lt l)
shifted_out w P (suc n) h =
    let e : P + suc n ≡ P + 1 + n = omega arith in
    let half : w / 2 ^ (P + 1) ≡ w / 2 ^ P / 2 = rw (add-one P, pow-suc 2 P) (sym (div-div-eq-div-mul w (2 ^ P) 2)) in
    let rest : eqb (w / 2 ^ P / 2) 0 ≡ not (any (bit w) (range (P + 1) n)) = ap (λ (x : ℕ). eqb x 0) (sym half) ∙ shifted_out w (P + 1) n (rw (← e) h) in
    halves (w / 2 ^ P) ∙ go (eqb (w / 2 ^ P % 2) 1) (eqb (w / 2 ^ P / 2) 0) (any (bit w) (range (P + 1) n)) rest
  where
    go : (x y z : Bool) → y ≡ not z → not (x || not y) ≡ not (x || z)
    go true y z e = refl
    go false true true e = e
    go false true false e = refl
    go false false true e = refl
    go false false false e = e

pub arguments : (P cost w : ℕ) → P ≤ 16 → w < 2 ^ 64 → (leb cost MAX_COST && eqb (w / 2 ^ P) 0) ≡ arguments_allowed P cost (bit w)
arguments P cost w few h =
    let e : P + (64 - P) ≡ 64 = omega arith in
    ap (λ (b : Bool). leb cost MAX_COST && b) (shifted_out w P (64 - P) (rw e h))

-- Settle's answer, from what check answered

module _ (b : List ℕ) (c : ℕ) (met : ℕ → Bool) (x : Result Sizes Refusal) (e : checked x ≡ check b) where
  -- a file that is not accepted: its refusal
  pub turned_down : (r : Refusal) → x ≡ Err r → refused (number_of r.cause) r.place ≡ settled b c met
  unfolding settled
  turned_down = passed_on (settled_by b c met) b x e

-- a file that is accepted, of sizes z
module _ (b : List ℕ) (c : ℕ) (met : ℕ → Bool) (z : Sizes) (accepted : check b ≡ Check.accepted (as_sizes z)) where
  on_task : settled_by b c met (Check.accepted (as_sizes z)) ≡ settled b c met
  unfolding settled
  on_task = ap (settled_by b c met) (sym accepted)

  pub few : z.preferences ≤ 16
  few = (within (as_sizes z) (accepted_spelling b (as_sizes z) accepted).allowed).4

  pub not_allowed : arguments_allowed z.preferences c met ≡ false → refused 15 0 ≡ settled b c met
  not_allowed h = rw h at on_task

  pub cost_allowed : arguments_allowed z.preferences c met ≡ true → c ≤ MAX_COST
  cost_allowed h =
      let t : T (arguments_allowed z.preferences c met) = as_t {b = arguments_allowed z.preferences c met} h in
      leb→le c MAX_COST (search tests)

  pub worth_on : arguments_allowed z.preferences c met ≡ true → (w : Settled)
      → ((t : Task) → parts_of b (as_sizes z) ≡ task_rows t → w ≡ worth_of t c met) → w ≡ settled b c met
  worth_on h w says = says (task_of b) (parts_spell b (as_sizes z) accepted) ∙ (rw h at on_task)
