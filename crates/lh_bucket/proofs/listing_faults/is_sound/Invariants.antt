use Rattle.std.proofs.Common.{◌≡◌, ℕ, ◌<◌, length}
use Rattle.std.specs.List.{AllWithin}
use Rattle.lh_page.specs.Records.{IsRecord}
use Rattle.lh_bucket.specs.Listing.{IsHome, IsNew, AreTopsOf}
use Rattle.lh_bucket.proofs.listing_faults.is_sound.Given as goal

abbrev pub invariant-loop-place : goal.invariant-loop-place
invariant-loop-place l = record {
  home : (p : ℕ) → p < l.place → IsHome l.root.initial l.root.buckets l.bucket l.pairs p;
  records : AllWithin IsRecord l.pairs 0 l.place;
  new : (p : ℕ) → p < l.place → IsNew 0 l.pairs p;
  size : length l.tops ≡ 256;
  tops : AreTopsOf l.tops l.pairs l.place;
}
