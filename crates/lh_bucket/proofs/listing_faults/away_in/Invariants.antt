use Rattle.std.proofs.Common.{ℕ, ◌<◌}
use Rattle.lh_page.specs.Records.{IsRecord}
use Rattle.std.specs.List.{AllWithin}
use Rattle.lh_bucket.specs.Listing.{IsHome}
use Rattle.lh_bucket.proofs.listing_faults.away_in.Given as goal

abbrev pub invariant-loop-place : goal.invariant-loop-place
invariant-loop-place l = record {
  home : (p : ℕ) → p < l.place → IsHome l.root.initial l.root.buckets l.bucket l.pairs p;
  records : AllWithin IsRecord l.pairs 0 l.place;
}
