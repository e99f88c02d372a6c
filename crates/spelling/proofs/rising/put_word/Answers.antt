use borrow.Author.Rules.{rules}
use mathlib.Core.Path.{◌≡◌, sym, ap, ap₂, ◌∙◌}
use mathlib.Core.Bool.{Bool}
use Prim.Native.Nat.{◌+◌, ◌*◌, ◌-◌, ◌%◌, ◌^◌, ◌<◌}
use lib.Bits.{or_lt, and_le_l}
use lib.Count.{count_trailing_zeros}
use native.Mathlib.Omega.{arith}
use Rattle.writer.proofs.Putting.{then, wrote_none, as_rows, kept_none, kept_on}
use Rattle.spelling.specs.Runs.{fact_rows}
use Rattle.spelling.proofs.LowestBit.{lowest_within, lowest_set, without_less}
use Rattle.spelling.proofs.RisingRows.{left, all_left, none_left, lowest_left}
use Rattle.spelling.proofs.rising.put_word.Goals as goal
use Rattle.spelling.proofs.rising.put_word.Goals.{In-loop-rest}

pub loop-rest-init : goal.loop-rest-init
loop-rest-init c =
    let a = c.args in
    record {
      writing = record { so_far = kept_none (search rules); onward = λ r o w. w };
      word = or_lt 64 a.first a.second (search rules) (search rules);
    }

-- the word that is left has bits, and a lowest one
some : (c : In-loop-rest) → 0 < c.loop-rest.rest
some c = search rules

few : (c : In-loop-rest) → c.loop-rest.rest < 2 ^ 64
few c = c.loop-rest.invariant.word

low : (c : In-loop-rest) → count_trailing_zeros 64 c.loop-rest.rest < 64
low c = lowest_within 64 c.loop-rest.rest (some c) (few c)

pub test_bit-in_first-requires : goal.test_bit-in_first-requires
test_bit-in_first-requires c = omega (arith, low c)

pub test_bit-in_second-requires : goal.test_bit-in_second-requires
test_bit-in_second-requires c = omega (arith, low (goal.at.test_bit-in_second-requires c).In-loop-rest)

pub overflow_add-base : goal.overflow_add-base
overflow_add-base c = let h = low (goal.at.overflow_add-base c).In-loop-rest in search rules

pub put_fact-k-requires : goal.put_fact-k-requires
put_fact-k-requires c = c.loop-rest.invariant.writing.so_far.room

pub overflow_cast-rest : goal.overflow_cast-rest
overflow_cast-rest c = let h = low (goal.at.overflow_cast-rest c).In-loop-rest in search rules

pub overflow_shl-rest : goal.overflow_shl-rest
overflow_shl-rest c = low (goal.at.overflow_shl-rest c).In-loop-rest

pub loop-rest-smaller : goal.loop-rest-smaller
loop-rest-smaller c =
    let w = c.loop-rest.rest in
    without_less w (count_trailing_zeros 64 w) (few (goal.at.loop-rest-smaller c).In-loop-rest) (low (goal.at.loop-rest-smaller c).In-loop-rest) (lowest_set 64 w (some (goal.at.loop-rest-smaller c).In-loop-rest) (few (goal.at.loop-rest-smaller c).In-loop-rest))

pub loop-rest-preserved : goal.loop-rest-preserved
loop-rest-preserved c =
    let a = c.args in
    let tested = ap₂ (λ (x y : Bool). fact_rows a.a a.b x y (a.base + count_trailing_zeros 64 c.loop-rest.rest)) c.test_bit-in_first.ensures c.test_bit-in_second.ensures in
    let e = lowest_left a.a a.b a.base a.first a.second c.loop-rest.rest (few (goal.at.loop-rest-preserved c).In-loop-rest) (some (goal.at.loop-rest-preserved c).In-loop-rest) in
    record {
      writing = record {
        so_far = kept_on c.loop-rest.invariant.writing.so_far c.put_fact-k.auto.out c.put_fact-k.ensures;
        onward = λ r o w. c.loop-rest.invariant.writing.onward r o (as_rows (sym e) (then (as_rows tested c.put_fact-k.ensures) w));
      };
      word = omega (arith, and_le_l c.loop-rest.rest (18446744073709551615 - 1 * 2 ^ count_trailing_zeros 64 c.loop-rest.rest % 18446744073709551616), few (goal.at.loop-rest-preserved c).In-loop-rest);
    }

pub shape_of-out : goal.shape_of-out
shape_of-out c = c.loop-rest.invariant.writing.so_far.size

pub returns : goal.returns
returns c =
    let a = c.args in
    let none : c.loop-rest.rest ≡ 0 = search rules in
    as_rows (sym (all_left a.a a.b a.base a.first a.second))
    (c.loop-rest.invariant.writing.onward c.loop-rest.k c.loop-rest.out
    (as_rows (sym (ap (left a.a a.b a.base a.first a.second) none ∙ none_left a.a a.b a.base a.first a.second))
    (wrote_none c.loop-rest.invariant.writing.so_far.room)))
