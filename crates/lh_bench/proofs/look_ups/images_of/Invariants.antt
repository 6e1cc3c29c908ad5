use Rattle.std.proofs.Common.{◌≡◌, length}
use Rattle.lh_bench.proofs.look_ups.images_of.Given as goal

abbrev pub invariant-loop-listing : goal.invariant-loop-listing
invariant-loop-listing g l = length l.images.items ≡ l.listing-index
