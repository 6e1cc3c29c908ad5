-- What is under a word that was only counted
use Rattle.std.proofs.Common.{◌≡◌, ◌<◌, ◌+◌, ◌%◌, ◌^◌, ℕ, zero, suc, List, Option, Some, None, length, refl, ap}
use Rattle.std.proofs.Common.{◌∙◌, arith}
use Rattle.std.specs.FinMap.{get}
use Rattle.std.specs.Int.{w32, to_be_bytes}
use Rattle.std.proofs.lemmas.Nat.{from_be_bytes-to_be_bytes_4}
use Rattle.lh_bucket.specs.Listing.{Lists}
use Rattle.lh_settling.specs.ClosedFile.{ClosedFile}
use Rattle.lh_settling.specs.Settled.{map_in}
use Rattle.lh_settling.specs.declared.act.ActLine.{ActLine}
use Rattle.lh_file.specs.Closing.{HasHistory}
use Rattle.lh_file.specs.FileState.{FileState}
use Rattle.lh_file.specs.History.Met.{CounterLaw, IsMadeBy, made_by, updates_of}
use Rattle.lh_file.specs.Words.HandState.{HandState}
use Rattle.lh_words.specs.History.Log.{left_after}
use Rattle.use_counter.specs.Counting.{one_more, IsCounter, IsCountOf, HasCounted}

-- the next number of 32 bits
next : (n : ℕ) → n < 2 ^ 32 → one_more (to_be_bytes w32 n) ≡ to_be_bytes w32 ((n + 1) % 2 ^ 32)
next n small = ap (λ m. to_be_bytes w32 ((m + 1) % 2 ^ 32)) (from_be_bytes-to_be_bytes_4 n small)

-- so many updates make a first 1 one more than as many
made : (more : ℕ) → made_by one_more more (to_be_bytes w32 1) ≡ to_be_bytes w32 ((1 + more) % 2 ^ 32)
made zero = refl
made (suc more) =
    ap one_more (made more) ∙ next ((1 + more) % 2 ^ 32) (omega arith)
    ∙ ap (to_be_bytes w32) (omega arith)

counts : (more : ℕ) (under : Option (List ℕ)) → IsMadeBy one_more (to_be_bytes w32 1) more under → IsCountOf more under
counts more (Some value) is = is ∙ made more
counts more None is = is

-- a file that was closed whole holds what was counted
pub counted : CounterLaw → (opening : Lists) (closed : ClosedFile) (acts : List ActLine) (file : FileState)
    (hand : HandState) → HasHistory opening closed acts hand → hand.view.left + length hand.acts ≡ 2 ^ 63 →
    IsCounter file hand → HasCounted opening closed
counted law opening closed acts file hand history home counter = record {
  log = history.0;
  legal = history.1.0.1;
  holds = history.1.1;
  counts = λ word absent.
      counts (updates_of word history.0) (get (left_after (map_in opening) history.0) word)
      (law opening closed acts hand one_more (to_be_bytes w32 1) word history home counter.own.own (counter.only word)
      absent).0;
}
