use Rattle.std.proofs.Common.{◌≡◌, ℕ, ◌<◌, ◌≤◌, length, slice_index_or}
use Rattle.lh_addr.specs.Extent.{Extent}
use Rattle.lh_bucket.specs.Listing.{Lists}
use Rattle.lh_image.specs.Checked.{IsChecked}
use Rattle.lh_image.specs.Image.{IsImage}
use Rattle.lh_image.specs.declared.header.Header.{Header}
use Rattle.lhf.specs.declared.handle.Ask.{Ask}
use Rattle.lhf.specs.Many.{AreStarted}
use Rattle.lhf.specs.Replies.{IsAskReply}
use Rattle.lhf.proofs.many.answer_all.Given as goal

abbrev pub invariant-loop-place : goal.invariant-loop-place
invariant-loop-place l = record {
  keys : (i : ℕ) → i < length l.asks → (d : Ask) → (slice_index_or l.asks i d).key ≡ (slice_index_or l.fn.asks i d).key;
  left : (i : ℕ) → l.place ≤ i → (d : Ask) → slice_index_or l.asks i d ≡ slice_index_or l.fn.asks i d;
  found : (header : Header) → (root : Extent) → l.fn.version ≡ header.version →
      IsChecked l.bytes header root l.index → AreStarted root l.fn.asks → (s : Lists) → IsImage l.bytes s →
      (i : ℕ) → i < l.place → (d : Ask) → IsAskReply s (slice_index_or l.asks i d);
}
