use Rattle.std.proofs.Common.{◌≡◌, ◌+◌, ◌*◌, ◌^◌, ◌<◌, ◌≤◌}
use Rattle.std.specs.Prelude.{sum_by}
use Rattle.lh_bucket.specs.Listing.{count_of}
use Rattle.lh_draw.specs.Columns.{chain_length, lists_between, longest_of}
use Rattle.lh_draw.proofs.tally.counted_between.Given as goal

abbrev pub invariant-loop-bucket : goal.invariant-loop-bucket
invariant-loop-bucket l =
    (l.tally.records ≡ count_of (lists_between l.listing l.first l.bucket))
    × (l.tally.pages ≡ sum_by (chain_length l.listing.config.capacity) (lists_between l.listing l.first l.bucket))
    × (l.tally.longest ≡ longest_of l.listing.config.capacity (lists_between l.listing l.first l.bucket))
    × (l.tally.pages ≤ 2 ^ 64 * l.bucket)
    × (l.bucket ≤ l.first + l.tally.pages)
    × (l.first < l.bucket → 1 ≤ l.tally.longest)
    × (l.tally.records ≤ l.listing.config.capacity * l.tally.pages)
