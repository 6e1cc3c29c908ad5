use Rattle.std.proofs.Common.{ℕ, ◌<◌, map}
use Rattle.std.specs.List.{All}
use Rattle.std.specs.Option.{IfNone, IfSome}
use Rattle.lh_page.specs.Records.{IsRecord}
use Rattle.lh_bucket.specs.Listing.{IsHome, IsNew, list_at}
use Rattle.lh_bucket.specs.ListingFault.{IsTwiceAmong}
use Rattle.lh_bucket.proofs.Listings.{EachBefore}
use Rattle.lh_bucket.proofs.listing_faults.first_fault.Given as goal

abbrev pub invariant-loop-bucket : goal.invariant-loop-bucket
invariant-loop-bucket l = record {
  home : EachBefore (IsHome l.root.initial l.root.buckets) (map (λ v. v.items) l.lists) l.bucket;
  records : (b : ℕ) → b < l.bucket → All IsRecord (list_at (map (λ v. v.items) l.lists) b);
  new : IfNone l.twice (EachBefore IsNew (map (λ v. v.items) l.lists) l.bucket);
  twice : IfSome l.twice (IsTwiceAmong (map (λ v. v.items) l.lists));
}
