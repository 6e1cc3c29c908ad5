use Rattle.std.specs.BTreeSet.{contains}
use Rattle.std.specs.Cmp.Lexicographic.{slice_cmp}
use Rattle.std.specs.Ordering.{nat_cmp}
use Rattle.lh_image.proofs.Judging.Misplacing.{known_more}
use Rattle.lh_image.proofs.judge.misplaced.is_misfit.Goals as goal

pub returns-then-address-bucket-clause-known : goal.returns-then-address-bucket-clause-known
returns-then-address-bucket-clause-known c before known =
    known_more c.args.pair.now.key before (contains (slice_cmp nat_cmp) c.args.came.now)
    (contains (slice_cmp nat_cmp) c.insert.new.self) c.in_ok-is_new.ensures.updates.0 known

pub returns-else-address-bucket-clause-known : goal.returns-else-address-bucket-clause-known
returns-else-address-bucket-clause-known c before known =
    known_more c.args.pair.now.key before (contains (slice_cmp nat_cmp) c.args.came.now)
    (contains (slice_cmp nat_cmp) c.insert.new.self) c.in_ok-is_new.ensures.updates.0 known
