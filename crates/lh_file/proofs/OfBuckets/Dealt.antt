-- A seat that deals the buckets of a listing out, segment after segment
use Rattle.std.proofs.Common.{◌≡◌, ℕ, zero, suc, ◌+◌, ◌-◌, ◌*◌, ◌^◌, ◌<◌, ◌≤◌, ◌⊎◌, ⊎_elim, Bool, true, false, [], ◌∷◌}
use Rattle.std.proofs.Common.{map, refl, sym, ap, ◌∙◌, arith, add-one}
use Rattle.std.specs.List.{range_with_len}
use Rattle.std.proofs.lemmas.Bool.{false≢true}
use mathlib.Core.Logic.{dite}
use native.Mathlib.Decide.{dec_le}
use Rattle.lh_bucket.specs.Bucket.{Seen}
use Rattle.lh_bucket.specs.Listing.{Lists, list_at, size}
use Rattle.lh_words.specs.Dealing.{first_bucket_of, other_buckets_of, dealt_seat, buckets_from}
use Rattle.lh_words.specs.Dealing.{undealt}
use Rattle.lh_words.specs.Plays.{Seated}
use Rattle.lh_words.specs.Seats.{listed_head, opened_at, first_seat}
use Rattle.lh_words.specs.declared.seat_view.SeatView.{SeatView}
use Rattle.lh_file.specs.Buckets.Segments.{start_of, end_of}
use Rattle.lh_file.proofs.OfBuckets.Levels.{size_doubles}

-- one bucket after another
next_of : (k : Lists) (n : ℕ) → n < size k → buckets_from k n ≡ opened_at k n ∷ buckets_from k (n + 1)
next_of k n below =
    let e : size k - n ≡ suc (size k - (n + 1)) = omega arith in ap (λ m. map (opened_at k) (range_with_len n m)) e

-- the bucket that comes next
pub first_dealt : (k : Lists) (traced : Bool) (n : ℕ) (old : Seated) (bucket : Seen) → n < size k →
    old ≡ (undealt traced k n, []) → bucket.head ≡ listed_head k n → bucket.pairs ≡ list_at k.lists n → traced ≡ true →
    first_bucket_of old.0.parts ≡ bucket ∷ []
first_dealt k true n old bucket below is head pairs on =
    ap (λ (m : Seated). first_bucket_of m.0.parts) is ∙ ap first_bucket_of (next_of k n below)
    ∙ (λ i. record { head = sym head i; pairs = sym pairs i } ∷ [])
first_dealt k false n old bucket below is head pairs on = absurd (false≢true on)

none_from : (k : Lists) (n : ℕ) → size k ≤ n → buckets_from k n ≡ []
none_from k n past = let e : size k - n ≡ 0 = omega arith in ap (λ m. map (opened_at k) (range_with_len n m)) e

module _ (k : Lists) where
  -- in a traced file the first seat that deals its next bucket has dealt out the buckets below the one after it
  pub dealt_one : (n : ℕ) → n < size k → (traced : Bool) → traced ≡ true →
      dealt_seat (undealt traced k n) ≡ undealt traced k (n + 1)
  dealt_one n below true on =
      ap (λ ps. record (first_seat true k) { parts = ps }) (ap other_buckets_of (next_of k n below))
  dealt_one n below false on = absurd (false≢true on)

  -- past the last bucket nothing is left to deal
  pub undealt-past : (m n : ℕ) (traced : Bool) → size k ≤ m → size k ≤ n → undealt traced k m ≡ undealt traced k n
  undealt-past m n false low high = refl
  undealt-past m n true low high =
      ap (λ ps. record (first_seat true k) { parts = ps }) (none_from k m low ∙ sym (none_from k n high))

  -- after all buckets are dealt out the first seat has none, as that of an untraced file
  pub undealt-all : (n : ℕ) (traced : Bool) → size k ≤ n → undealt traced k n ≡ first_seat false k
  undealt-all n false past = refl
  undealt-all n true past = ap (λ ps. record (first_seat true k) { parts = ps }) (none_from k n past)

  -- before the first bucket all are
  pub undealt-none : (traced : Bool) → undealt traced k 0 ≡ first_seat traced k
  undealt-none true =
      let e : size k - 0 ≡ size k = omega arith in
      ap (λ m. record (first_seat true k) { parts = map (opened_at k) (range_with_len 0 m) }) e
  undealt-none false = refl

-- what a deal leaves of the first seat
pub dealt_next : (k : Lists) (traced : Bool) (n : ℕ) (old new : Seated) → n < size k → old ≡ (undealt traced k n, []) →
    (traced ≡ true → new ≡ (dealt_seat old.0, old.1)) → (traced ≡ false → new ≡ old) →
    new ≡ (undealt traced k (n + 1), [])
dealt_next k true n old new below is on off =
    on refl ∙ ap (λ (m : Seated). (dealt_seat m.0, m.1)) is
    ∙ ap (λ (d : SeatView). (d, [])) (dealt_one k n below true refl)
dealt_next k false n old new below is on off = off refl ∙ is

-- a segment ends where the next one begins
next_begins : (initial j : ℕ) → start_of initial (j + 1) ≡ initial * 2 ^ j
next_begins initial j = ap (start_of initial) (add-one j)

begins_low : (initial j : ℕ) → start_of initial j ≤ initial * 2 ^ j
begins_low initial zero = omega arith
begins_low initial (suc j) =
    let d = size_doubles initial j in
    let e : 2 ^ (j + 1) ≡ 2 ^ suc j = ap (λ n. 2 ^ n) (add-one j) in
    let f : initial * 2 ^ (j + 1) ≡ initial * 2 ^ suc j = ap (λ n. initial * n) e in
    omega arith

-- a segment has had its buckets dealt
pub segment_dealt : (k : Lists) (traced : Bool) (j first end n : ℕ) → size k ≤ k.config.max →
    first ≡ start_of k.config.initial j → end ≡ end_of k.config.initial k.config.max j → end ≤ n →
    (n ≤ end) ⊎ (n ≡ first)
    → undealt traced k n ≡ undealt traced k (start_of k.config.initial (j + 1))
segment_dealt k traced j first end n fits begin last past until =
    let next : start_of k.config.initial (j + 1) ≡ k.config.initial * 2 ^ j = next_begins k.config.initial j in
    let low : start_of k.config.initial j ≤ k.config.initial * 2 ^ j = begins_low k.config.initial j in
    dite (dec_le (k.config.initial * 2 ^ j) k.config.max)
    (λ inside.
    let is : n ≡ start_of k.config.initial (j + 1) =
    ⊎_elim (λ h. let e : n ≡ start_of k.config.initial (j + 1) = omega arith in e)
    (λ h. let e : n ≡ start_of k.config.initial (j + 1) = omega arith in e) until in
    ap (undealt traced k) is)
    (λ outside. undealt-past k n (start_of k.config.initial (j + 1)) traced (omega arith) (omega arith))

-- all segments up to that of the last bucket have all buckets
pub all_dealt : (k : Lists) (traced : Bool) (last : ℕ) → size k - 1 < k.config.initial * 2 ^ last →
    undealt traced k (start_of k.config.initial (last + 1)) ≡ first_seat false k
all_dealt k traced last above =
    let next : start_of k.config.initial (last + 1) ≡ k.config.initial * 2 ^ last = next_begins k.config.initial last in
    undealt-all k (start_of k.config.initial (last + 1)) traced (omega arith)
