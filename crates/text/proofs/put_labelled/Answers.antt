-- The word, then the number: then of Writing.
use native.Mathlib.Omega.{arith}
use Rattle.text.proofs.Writing.{then}
use Rattle.text.proofs.put_labelled.Goals as goal

pub returns : goal.returns
returns c = record {
  wrote = then c.put_bytes-a.ensures c.put_decimal.ensures.wrote;
  upper_bound = omega (arith, c.put_decimal.ensures.upper_bound, c.put_bytes-a.ensures.after);
}
