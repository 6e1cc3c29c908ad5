use Rattle.std.proofs.Common.{◌≡◌}
use Rattle.lh_image.specs.Census.{longest_before}
use Rattle.lh_image.proofs.census.longest_chain.Given as goal

abbrev pub invariant-loop-bucket : goal.invariant-loop-bucket
invariant-loop-bucket l = l.longest ≡ longest_before l.listing l.bucket
