use Rattle.std.proofs.Common.{◌∙◌, sym, ap, is_some}
use Rattle.lh_bucket.proofs.PlainBuckets.{get-pairs_of_entries, taken}
use Rattle.lh_bucket.proofs.plain_bucket.take.Goals as goal

pub returns-clause-found : goal.returns-clause-found
returns-clause-found c =
    c.is_some.ensures
    ∙ ap is_some (c.remove.ensures.value ∙ sym (get-pairs_of_entries c.args.records.now.entries c.args.key.now))

pub returns-clause-left : goal.returns-clause-left
returns-clause-left c =
    rw c.is_some.ensures
    (taken c.args.records.now.entries c.remove.new.self.entries c.args.key.now c.remove.result
    c.remove.ensures.updates.0 c.remove.ensures.unchanged)
