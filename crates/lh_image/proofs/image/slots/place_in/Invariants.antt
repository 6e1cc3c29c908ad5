use Rattle.lh_image.specs.LookUp.{IsScannedTo}
use Rattle.lh_image.specs.Misplaced.{is_home}
use Rattle.lh_image.proofs.image.slots.place_in.Given as goal

abbrev pub invariant-loop-place : goal.invariant-loop-place
invariant-loop-place l = IsScannedTo l.fn.format l.page l.key (is_home l.root l.bucket) l.place l.place_found l.strange
