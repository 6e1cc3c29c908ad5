use Rattle.std.proofs.Common.{◌≡◌, ◌+◌}
use Rattle.std.specs.List.{range_with_len, flat_map}
use Rattle.std.specs.Io.KnownBytes.{Appends}
use Rattle.lh_bucket.specs.Listing.{size}
use Rattle.lh_image.specs.Canonical.{overflow_before, overflow_text}
use Rattle.lh_image.proofs.writing.write_overflow_pages.Given as goal

abbrev pub invariant-loop-bucket : goal.invariant-loop-bucket
invariant-loop-bucket g l = record {
  following : l.following ≡ 1 + size l.listing + overflow_before l.listing l.bucket;
  written : Appends (g.W.Write.contents l.fn.writer) (g.W.Write.contents l.writer)
      (flat_map (overflow_text l.version l.listing) (range_with_len 0 l.bucket));
}
