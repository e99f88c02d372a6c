-- Number by number.
use mathlib.Core.Path.{◌∙◌}
use Prim.Native.Nat.{◌+◌}
use Rattle.weekly.proofs.Counts.{greater}
use Rattle.weekly.proofs.tally.count.Goals as goal

pub raise-requires : goal.raise-requires
raise-requires c = c.requires.0.counts

pub returns : goal.returns
returns c =
    let t = c.args.t.now in
    λ z. record {
      solving = t.solving + 1;
      lowest = c.least-t.ensures z;
      highest = (c.max-t.ensures ∙ greater t.greatest c.args.metric) z;
      total = t.sum + c.args.metric;
      meetings = c.raise.ensures z;
    }
