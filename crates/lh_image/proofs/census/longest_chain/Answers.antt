use Rattle.std.proofs.Common.{refl, arith}
use Rattle.lh_image.specs.Census.{longest_before}
use Rattle.lh_image.proofs.Writes.Counted.{longest-more}
use Rattle.lh_image.proofs.census.longest_chain.Goals as goal

pub loop-bucket-init : goal.loop-bucket-init
unfolding longest_before
loop-bucket-init c = refl

pub loop-bucket-preserved : goal.loop-bucket-preserved
loop-bucket-preserved c =
    omega (
      arith,
      c.loop-bucket.invariant,
      c.max-longest.ensures,
      c.page_count_in.ensures.value,
      longest-more c.args.listing.now c.loop-bucket.bucket,
    )
