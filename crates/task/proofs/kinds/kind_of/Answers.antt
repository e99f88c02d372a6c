-- By the mark each kind computes, and the last is left where the mark is no other's: last_kind of Steps.
use mathlib.Core.Path.{sym}
use Prim.Native.Nat.{ℕ, ◌<◌}
use native.Mathlib.Omega.{arith}
use lib.Dec.{T, leb, le→leb}
use borrow.Author.Rules.{rules}
use Rattle.task.proofs.Steps.{last_kind}
use Rattle.task.specs.Limits.{MAX_DEADLINE}
use Rattle.task.proofs.kinds.kind_of.Goals as goal

few : (t : ℕ) → t < 16 → T (leb t MAX_DEADLINE)
few t h = le→leb t MAX_DEADLINE (omega arith)

pub returns-in-10 : goal.returns-in-10
returns-in-10 c = record {
  result_value = rw c.in-10.is;
  t = tt;
}

pub returns-in-11 : goal.returns-in-11
returns-in-11 c = record {
  result_value = rw c.in-11.is;
  t = tt;
}

pub returns-in-12 : goal.returns-in-12
returns-in-12 c = record {
  result_value = rw c.in-12.is;
  t = tt;
}

pub returns-in-13 : goal.returns-in-13
returns-in-13 c = record {
  result_value = rw c.in-13.is;
  t = tt;
}

pub returns-in-14 : goal.returns-in-14
returns-in-14 c = record {
  result_value = rw c.in-14.is;
  t = tt;
}

pub returns-in-15 : goal.returns-in-15
returns-in-15 c = record {
  result_value = rw c.in-15.is;
  t = tt;
}

pub returns-in-17 : goal.returns-in-17
returns-in-17 c = record {
  result_value = rw c.in-17.is;
  t = few c.args.steps (search rules);
}

pub returns-in_default : goal.returns-in_default
returns-in_default c =
    let a = c.args in
    let r = c.in_default.in_default-own.rest in record {
      result_value = sym (last_kind a.mark a.steps r.0.0.0.0.0.0.1 r.0.0.0.0.0.1 r.0.0.0.0.1 r.0.0.0.1 r.0.0.1 r.0.1 r.1);
      t = few a.steps (search rules);
    }
