use borrow.Author.Rules.{rules}
use mathlib.Core.Path.{◌≡◌, subst}
use Prim.Native.Nat.{ℕ}
use native.Mathlib.Omega.{arith}
use Rattle.lists.specs.Lists.{range}
use Rattle.text.specs.Area.{Wrote}
use Rattle.text.proofs.Writing.{no_bytes}
use Rattle.pddl_parts.specs.Pddl.{spaced, fact_text}
use Rattle.pddl_text.proofs.TextRows.{fact_more}
use Rattle.pddl_text.proofs.texts.put_facts.Goals as goal

pub loop-i-init : goal.loop-i-init
loop-i-init c = let a = c.args in (search rules, no_bytes a.out.now a.at)

pub loop-i-preserved : goal.loop-i-preserved
loop-i-preserved c =
    (search rules, fact_more c.loop-i.i c.loop-i.invariant.1 c.put_byte-k.ensures c.put_fact-k.ensures.wrote)

pub returns : goal.returns
returns c =
    let a = c.args in
    let all : c.loop-i.i ≡ a.facts = omega (arith, c.loop-i.auto.i-end, c.loop-i-test.false) in
    record {
      wrote = subst (λ (n : ℕ). Wrote a.out.now a.at (spaced fact_text (range 0 n)) c.loop-i.k c.loop-i.out) all c.loop-i.invariant.1;
      upper_bound = search rules;
    }
