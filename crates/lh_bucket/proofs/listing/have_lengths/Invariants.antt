use Rattle.lh_page.specs.Records.{IsRecord}
use Rattle.std.specs.List.{AllWithin}
use Rattle.lh_bucket.proofs.listing.have_lengths.Given as goal

abbrev pub invariant-loop-place : goal.invariant-loop-place
invariant-loop-place l = AllWithin IsRecord l.pairs 0 l.place
