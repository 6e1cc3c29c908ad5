use Rattle.std.proofs.Common.{List, ℕ, subst, sym}
use Rattle.lh_bucket.specs.Bucket.{Head, HasOwnKeys}
use Rattle.lh_bucket.specs.PlainBucket.{pairs_of_entries}
use Rattle.lh_bucket.proofs.Kept.{home_none}
use Rattle.lh_bucket.proofs.PlainBuckets.{plain_made}
use Rattle.lh_bucket.proofs.plain_bucket.PlainBucketBucket.make.Goals as goal

pub invariant_of-result : goal.invariant_of-result
invariant_of-result c =
    let head : Head =
    record { number = c.args.number; initial = c.args.initial; capacity = c.args.capacity; level = c.args.level } in
    plain_made head c.new.result.entries c.requires.initial c.requires.capacity c.new.ensures.ordered
    (subst (λ (es : List (List ℕ × List ℕ)). HasOwnKeys head (pairs_of_entries es) c.args.level)
    (sym c.new.ensures.empty) (home_none head c.args.level c.requires.level))
