use Rattle.lh_bucket.proofs.PlainBuckets.{inserted}
use Rattle.lh_bucket.proofs.plain_bucket.add.Goals as goal

pub returns-clause-ok : goal.returns-clause-ok
returns-clause-ok c =
    inserted c.args.records.now.entries c.insert.new.self.entries c.args.key c.args.value
    c.in_ok-insert.ensures.updates.0
