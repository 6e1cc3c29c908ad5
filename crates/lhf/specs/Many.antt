-- Many keys in one call
use Rattle.std.specs.Prelude.{◌≡◌, ℕ, ◌<◌, List, length, slice_index_or}
use Rattle.lh_addr.specs.Extent.{Extent}
use Rattle.lh_bucket.specs.Listing.{Lists}
use Rattle.lh_image.specs.Indexed.{IsStart}
use Rattle.lhf.specs.declared.handle.Ask.{Ask}
use Rattle.lhf.specs.Replies.{IsAskReply}

-- each has the key that it had
pub record AreOfKeys (before after : List Ask) : Type 0 where
  pub size : length after ≡ length before
  pub keys : (i : ℕ) → i < length after → (d : Ask) →
      (slice_index_or after i d).key ≡ (slice_index_or before i d).key

-- one has the key and the start that it had
pub record KeepsStart (before after : Ask) : Type 0 where
  pub key : after.key ≡ before.key
  pub start : after.start ≡ before.start

-- each has the key and the start that it had
pub record KeepStarts (before after : List Ask) : Type 0 where
  pub size : length after ≡ length before
  pub each : (i : ℕ) → i < length after → (d : Ask) →
      KeepsStart (slice_index_or before i d) (slice_index_or after i d)

-- the look-up of each begins where it has to
abbrev pub AreStarted : Extent → List Ask → Type 0
AreStarted root asks =
    (i : ℕ) → i < length asks → (d : Ask) →
    IsStart root (slice_index_or asks i d).key.bytes.now (slice_index_or asks i d).start

-- each is answered
abbrev pub AreReplies : Lists → List Ask → Type 0
AreReplies l asks = (i : ℕ) → i < length asks → (d : Ask) → IsAskReply l (slice_index_or asks i d)
