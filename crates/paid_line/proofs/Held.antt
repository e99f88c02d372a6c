-- What was paid, held to a metric: the lines differ, and the line is `paid N` for the metric N alone.
use mathlib.Core.Path.{◌≡◌, refl, ap}
use mathlib.Core.Bool.{Bool, true, false, cond}
use mathlib.Core.List.{◌++◌}
use Prim.Native.Nat.{ℕ, ◌+◌}
use native.Mathlib.Omega.{arith}
use lib.Dec.{eqb}
use lib.ListN.{length, length-append}
use borrow.Author.Tests.{eq-eqb, eqb-true}
use Rattle.text.specs.Ascii.{ascii}
use Rattle.text.specs.Text.{decimal}
use Rattle.paid_line.specs.Paid.{Metric, metric, unsolved, paid_line, otherwise_line, unsolved_line, held_to}

-- The lines differ

module _ (n : ℕ) where
  paid_size : length (paid_line n) ≡ length (decimal n) + 6
  unfolding paid_line
  paid_size = omega (arith, length-append (ascii "paid " ++ decimal n) (ascii "\n"), length-append (ascii "paid ") (decimal n))

  unsolved_size : length (unsolved_line n) ≡ length (decimal n) + 21
  unfolding unsolved_line
  unsolved_size =
      omega (arith, length-append (ascii "paid " ++ decimal n) (ascii " but not solved\n"), length-append (ascii "paid ") (decimal n))

  otherwise_size : (m : ℕ) → length (otherwise_line n m) ≡ length (decimal n) + 17 + length (decimal m)
  unfolding otherwise_line
  otherwise_size m =
      omega (
        arith,
        length-append (ascii "paid " ++ decimal n ++ ascii " but worth " ++ decimal m) (ascii "\n"),
        length-append (ascii "paid " ++ decimal n ++ ascii " but worth ") (decimal m),
        length-append (ascii "paid " ++ decimal n) (ascii " but worth "),
        length-append (ascii "paid ") (decimal n),
      )

-- The line

pub held_same : (n : ℕ) → held_to (metric n) n ≡ paid_line n
held_same n = rw (eq-eqb n n refl)

pub paid_for : (x : Metric) (n : ℕ) → held_to x n ≡ paid_line n → x ≡ metric n
paid_for unsolved n e = absurd (omega (arith, ap length e, unsolved_size n, paid_size n))
paid_for (metric m) n e = go (eqb n m) refl e
  where
    go : (same : Bool) → eqb n m ≡ same → cond same (paid_line n) (otherwise_line n m) ≡ paid_line n → metric m ≡ metric n
    go true h e = let same : m ≡ n = omega (arith, eqb-true n m h) in ap metric same
    go false h e = absurd (omega (arith, ap length e, otherwise_size n m, paid_size n))
