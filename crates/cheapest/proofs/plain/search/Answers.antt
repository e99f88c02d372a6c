-- What `find` answers, with the nodes copied from its words to the list, by `Copied`.
use mathlib.Core.Path.{◌≡◌, ◌∙◌, ap}
use Prim.Native.Nat.{ℕ, ◌*◌, ◌/◌, ◌≤◌}
use native.Mathlib.Omega.{arith}
use lib.ListN.{length, get_or}
use Rattle.node_words.specs.Words.{nodes_of}
use Rattle.searched.specs.Searched.{Searched, search_file}
use Rattle.searched.proofs.Claimed.{search_claim}
use Rattle.nodes.proofs.Filling.{filled}
use Rattle.cheapest.specs.LentWords.{nodes_in}
use Rattle.cheapest.proofs.Handed.{kept_is, fits, few}
use Rattle.cheapest.proofs.Copied.{answer_copied, lent_words}
use borrow.Author.Rules.{rules}
use Rattle.cheapest.proofs.plain.search.Goals as goal
use Rattle.cheapest.proofs.plain.search.Goals.{After-nodes_in-n}

-- what stands in the words
module _ (c : After-nodes_in-n) where
  abbrev room : ℕ
  room = length c.args.nodes.now / 4

  holds : nodes_of c.find-sought.new.words c.nodes_in-n.result ≡ (search_file c.args.file.now c.args.limit room).kept
  holds =
      let f = c.find-sought in
      ap (nodes_of f.new.words) c.nodes_in-n.ensures ∙ kept_is f.new.plan f.new.words f.result ∙ ap (λ (x : Searched). x.kept) f.ensures.result_after

  small : c.nodes_in-n.result ≤ 1024
  small = few c.args.file.now c.args.limit room c.find-sought.new.words c.nodes_in-n.result holds

  roomy : 4 * c.nodes_in-n.result ≤ length c.args.nodes.now
  roomy = omega (arith, fits c.args.file.now c.args.limit room c.find-sought.new.words c.nodes_in-n.result holds)

  long : length c.find-sought.new.plan ≡ 1023
  long = let e : length c.args.plan.now ≡ 1023 = search rules in c.find-sought.auto.plan ∙ e

pub overflow_mul-n : goal.overflow_mul-n
overflow_mul-n c = record { fits = omega (arith, small (goal.at.overflow_mul-n c).After-nodes_in-n) }

pub copy_words-requires : goal.copy_words-requires
copy_words-requires c =
    let k = (goal.at.copy_words-requires c).After-nodes_in-n in
    (omega (arith, small k, c.find-sought.auto.words), roomy k)

pub returns : goal.returns
returns c =
    let k = (goal.at.returns c).After-nodes_in-n in
    let f = c.find-sought in
    let s = f.result in
    let list = c.args.nodes.now in
    let after = c.copy_words.new.out in
    let e : after ≡ filled (λ (i : ℕ). get_or f.new.words i 0) list (4 * c.nodes_in-n.result) = c.copy_words.ensures in
    let e' : after ≡ filled (λ (i : ℕ). get_or f.new.words i 0) list (4 * nodes_in s) =
    e ∙ ap (λ (m : ℕ). filled (λ (i : ℕ). get_or f.new.words i 0) list (4 * m)) c.nodes_in-n.ensures in
    record {
      result_after = answer_copied f.new.plan f.new.words list after s e' ∙ f.ensures.result_after;
      value = f.ensures.value;
      lent_words = lent_words c.args.file.now c.args.limit (length list / 4) f.new.words list after c.nodes_in-n.result (holds k) e;
      plan_after = f.ensures.plan_after;
      claim = search_claim c.args.file.now c.args.limit (length list / 4);
      bounded = (f.ensures.bounded.0, long k);
    }
