use Rattle.lh_bucket.proofs.Chained.{found_at-is}
use Rattle.lh_bucket.proofs.paged_bucket.SizedBucket.find.Goals as goal

pub returns-clause-found : goal.returns-clause-found
returns-clause-found g c =
    rw (← c.self.view_is) (found_at-is c.self.inside.chain.pairs c.args.key.now c.find.result c.find.ensures.place)
