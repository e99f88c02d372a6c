-- Nodes copied to a lent list of words.
use mathlib.Core.Path.{◌≡◌, refl, sym, ◌∙◌, ap}
use mathlib.Core.List.{List, [], ◌∷◌, ◌++◌}
use Prim.Native.Nat.{ℕ, zero, suc, ◌+◌, ◌*◌, ◌<◌, ◌≤◌}
use native.Mathlib.Omega.{arith}
use lib.ListN.{length, take, drop, get_or}
use lib.Seq.{take-suc, drop_at}
use Rattle.std.specs.Prelude.{Result, Ok, Err}
use Rattle.task.specs.declared.Refusal.{Refusal}
use Rattle.searching.specs.Search.{Node}
use Rattle.node_words.specs.Words.{packed_at, nodes_of}
use Rattle.node_words.proofs.Lists.{nodes_same}
use Rattle.searched.specs.Searched.{search_file}
use Rattle.finding.specs.Finding.{as_searched}
use Rattle.finding.specs.declared.Sought.{Sought}
use Rattle.finding.specs.declared.Sought.TheVariants.{Found, NoPlan, Full}
use Rattle.nodes.specs.Nodes.{up_to}
use Rattle.nodes.proofs.Filling.{filled, filled_at, length-up_to}
use Rattle.cheapest.specs.LentWords.{nodes_in, LentWords}
use Rattle.cheapest.proofs.Handed.{many}

-- the first n words
pub first_words : (ws : List ℕ) (n : ℕ) → n ≤ length ws → take n ws ≡ up_to (λ (i : ℕ). get_or ws i 0) n
first_words ws zero h = refl
first_words ws (suc n) h =
    take-suc ws n 0 (omega arith) ∙ ap (λ (l : List ℕ). l ++ get_or ws n 0 ∷ []) (first_words ws n (omega arith))

-- the first 4 × n words stand in the list, and its rest is as it was
module _ (words list : List ℕ) (n : ℕ) where
  abbrev word : ℕ → ℕ
  word i = get_or words i 0

  abbrev left : List ℕ
  left = filled word list (4 * n)

  packed_same : (q : ℕ) → q < n → packed_at left q ≡ packed_at words q
  unfolding packed_at
  packed_same q h = λ z. record {
    low = filled_at word list (4 * n) (4 * q) 0 (omega arith) z;
    high = filled_at word list (4 * n) (4 * q + 1) 0 (omega arith) z;
    cost = filled_at word list (4 * n) (4 * q + 2) 0 (omega arith) z;
    link = filled_at word list (4 * n) (4 * q + 3) 0 (omega arith) z;
  }

  copied : nodes_of left n ≡ nodes_of words n
  copied = nodes_same words left n packed_same

-- so an answer that speaks of the words speaks of the list
pub answer_copied : (plan words list after : List ℕ) (s : Result Sought Refusal) → after ≡ filled (λ (i : ℕ). get_or words i 0) list (4 * nodes_in s)
    → as_searched plan after s ≡ as_searched plan words s
answer_copied plan words list after (Ok (Found r n)) e =
    ap (λ (l : List ℕ). as_searched plan l (Ok (Found r n))) e ∙ ap (λ (ns : List Node). record { answer = (as_searched plan words (Ok (Found r n))).answer; kept = ns }) (copied words list n)
answer_copied plan words list after (Ok (NoPlan n)) e =
    ap (λ (l : List ℕ). as_searched plan l (Ok (NoPlan n))) e ∙ ap (λ (ns : List Node). record { answer = (as_searched plan words (Ok (NoPlan n))).answer; kept = ns }) (copied words list n)
answer_copied plan words list after (Ok (Full n)) e =
    ap (λ (l : List ℕ). as_searched plan l (Ok (Full n))) e ∙ ap (λ (ns : List Node). record { answer = (as_searched plan words (Ok (Full n))).answer; kept = ns }) (copied words list n)
answer_copied plan words list after (Err r) e = refl

pub lent_words : (b : List ℕ) (limit room : ℕ) (words list after : List ℕ) (n : ℕ) → nodes_of words n ≡ (search_file b limit room).kept
    → after ≡ filled (λ (i : ℕ). get_or words i 0) list (4 * n) → LentWords (search_file b limit room).kept list after
lent_words b limit room words list after n e h =
    let m : length (search_file b limit room).kept ≡ n = many b limit room words n e in
    record {
      begins = ap (nodes_of after) m ∙ ap (λ (l : List ℕ). nodes_of l n) h ∙ copied words list n ∙ e;
      rest =
          ap (λ (k : ℕ). drop (4 * k) after) m ∙ ap (drop (4 * n)) h
          ∙ drop_at (up_to (word words list n) (4 * n)) (drop (4 * n) list) (4 * n) (length-up_to (word words list n) (4 * n))
          ∙ ap (λ (k : ℕ). drop (4 * k) list) (sym m);
    }
